use Rattle.std.proofs.Common.{◌≡◌, ◌∙◌, sym, ap, ap₂, map, false, true≢false, ◌||◌, [], ◌∷◌, ◌++◌}
use Rattle.std.specs.List.{list_any}
use Rattle.hp_model.specs.Cells.{count_read}
use Rattle.hp_view.specs.declared.reads.Seen.TheVariants.{Count as OfCount}
use Rattle.hp_view.specs.Mapped.{read}
use Rattle.hp_view.specs.Seeing.{reads_count, keys_were_read, count_was_read}
use Rattle.hp_view.proofs.Noting.{recorded}
use Rattle.hp_view.proofs.Reading.{noted-new, noted-again}
use Rattle.hp_view.proofs.reads.Reads.note_count.Goals as goal
use Rattle.hp_view.proofs.reads.Reads.note_count.Goals.{After-contains_key}

found_is : (c : After-contains_key) → c.contains_key.result ≡ list_any (reads_count c.args.class) (map read c.self.inside.entries.entries)
found_is c = c.contains_key.ensures ∙ recorded (OfCount c.args.class) c.self.inside.entries.entries c.self.invariant

pub note-requires-clause-new : goal.note-requires-clause-new
note-requires-clause-new c = sym (found_is (goal.at.note-requires-clause-new c).After-contains_key) ∙ c.if-not-contains_key.true

unread : (c : After-contains_key) → c.contains_key.result ≡ false → count_was_read c.args.self.now c.args.class ≡ false
unread c new = ap₂ (λ a b. a || b) (ap (list_any (reads_count c.args.class)) (sym c.self.view_is) ∙ sym (found_is c) ∙ new) c.requires

pub returns-in_err-note-clause-again : goal.returns-in_err-note-clause-again
returns-in_err-note-clause-again c = λ again. absurd (true≢false (sym again ∙ unread (goal.at.returns-in_err-note-clause-again c).After-contains_key c.if-not-contains_key.true))

pub returns-in_ok-note-clause-ok : goal.returns-in_ok-note-clause-ok
returns-in_ok-note-clause-ok c =
    c.in_ok-note.ensures.ok ∙ ap (λ rs. rs ++ count_read c.args.class c.args.count ∷ []) c.self.view_is
    ∙ sym (noted-new c.args.self.now (count_read c.args.class c.args.count) (unread (goal.at.returns-in_ok-note-clause-ok c).After-contains_key c.if-not-contains_key.true))

pub returns-else-not-contains_key-clause-ok : goal.returns-else-not-contains_key-clause-ok
returns-else-not-contains_key-clause-ok c =
    sym (noted-again c.args.self.now (count_read c.args.class c.args.count)
    (ap (λ a. a || keys_were_read c.args.self.now c.args.class)
    (ap (list_any (reads_count c.args.class)) (sym c.self.view_is) ∙ sym (found_is (goal.at.returns-else-not-contains_key-clause-ok c).After-contains_key) ∙ c.if-not-contains_key.false)))
