use Rattle.std.proofs.Common.{◌≡◌, ◌∙◌, sym, ap, subst, map, false, [], ◌∷◌, ◌++◌}
use Rattle.std.specs.List.{list_any}
use Rattle.std.proofs.lemmas.List.{map-append}
use Rattle.indexmap.proofs.CallerLemmas.{insert_entry-new}
use Rattle.hp_view.specs.contracts.reads.SeenPartialEq.TheImpl as seeing
use Rattle.hp_view.specs.Mapped.{read}
use Rattle.hp_view.specs.Numbered.{AreNumbered, is_read_of}
use Rattle.hp_view.proofs.Noting.{none_there, recorded, numbered_more}
use Rattle.hp_view.proofs.reads.note.Goals as goal
use Rattle.hp_view.proofs.reads.note.Goals.{Joined-branch-3}

all_entries : (c : Joined-branch-3) → c.insert.new.self.entries ≡ c.args.entries.now.entries ++ (c.args.seen, c.args.found) ∷ []
all_entries c =
    let same : c.make_room.new.entries.entries ≡ c.args.entries.now.entries = c.make_room.ensures in
    let es = c.make_room.new.entries.entries in
    let numbered : AreNumbered es = subst AreNumbered (sym same) c.requires.numbered in
    let new : list_any (is_read_of c.args.seen) (map read es) ≡ false = ap (λ l. list_any (is_read_of c.args.seen) (map read l)) same ∙ c.requires.new in
    c.in_ok-insert.ensures.entries
    ∙ insert_entry-new seeing.ghosts.eq c.make_room.new.entries c.args.seen c.args.found (none_there _ (recorded c.args.seen es numbered ∙ new))
    ∙ ap (λ l. l ++ (c.args.seen, c.args.found) ∷ []) same

pub returns-clause-ok : goal.returns-clause-ok
returns-clause-ok c = ap (map read) (all_entries c) ∙ map-append read c.args.entries.now.entries ((c.args.seen, c.args.found) ∷ [])

pub returns-clause-numbered : goal.returns-clause-numbered
returns-clause-numbered c = subst AreNumbered (sym (all_entries c)) (numbered_more c.args.entries.now.entries (c.args.seen, c.args.found) c.requires.numbered c.requires.fits)
