use Rattle.std.proofs.Common.{◌≡◌, sym, ap, ◌∙◌, subst, ◌+◌, ◌-◌, ◌<◌, ◌≤◌, length, drop, get_or, arith}
use Rattle.hp_model.specs.NotationTokens.{blank, found, faulty, lexeme, tokens_from}
use Rattle.hp_text.specs.declared.token.Placed.{Placed}
use Rattle.hp_text.specs.Mapped.{token_view, before, ending_view}
use Rattle.hp_text.specs.Lexemes.{lexeme_view, IsWithin, end_of}
use Rattle.hp_text.proofs.Lexing.{past_blank, past_token, at_fault, at_end, before_more}
use Rattle.hp_text.proofs.lexer.tokens_in.Goals as goal
use Rattle.hp_text.proofs.lexer.tokens_in.Goals.{then-is_whole, else-is_whole}

pub loop-at-preserved-in-Blank : goal.loop-at-preserved-in-Blank
loop-at-preserved-in-Blank c =
    let d = c.args.text.now in
    let l = c.loop-at in
    let e = end_of c.args.is_whole in
    let more : l.at < length d = c.loop-at-test.true in
    let is : blank c.in-Blank.more ≡ lexeme (get_or d l.at 0) (drop (l.at + 1) d) = sym (ap lexeme_view c.in-Blank.is) ∙ c.in_ok-more.ensures.value in
    let size : c.in-Blank.more ≤ length d - l.at - 1 = subst (IsWithin (length d - l.at - 1)) c.in-Blank.is c.in_ok-more.ensures.size in
    record {
      so_far = l.invariant.so_far ∙ ap (before l.tokens.items) (past_blank e d l.at c.in-Blank.more more is size);
      within = omega arith;
    }

pub loop-at-preserved : goal.loop-at-preserved
loop-at-preserved c =
    let d = c.args.text.now in
    let l = c.loop-at in
    let e = end_of c.args.is_whole in
    let more : l.at < length d = c.loop-at-test.true in
    let is : found (token_view c.in-Found.token) c.in-Found.more ≡ lexeme (get_or d l.at 0) (drop (l.at + 1) d) = sym (ap lexeme_view c.in-Found.is) ∙ c.in_ok-more.ensures.value in
    let size : c.in-Found.more ≤ length d - l.at - 1 = subst (IsWithin (length d - l.at - 1)) c.in-Found.is c.in_ok-more.ensures.size in
    let placed : Placed = record { at = l.at; token = c.in-Found.token } in
    let rest = tokens_from e 0 (l.at + (c.in-Found.more + 1)) (drop (l.at + (c.in-Found.more + 1)) d) in
    record {
      so_far = l.invariant.so_far ∙ ap (before l.tokens.items) (past_token e d l.at c.in-Found.more (token_view c.in-Found.token) more is size) ∙ before_more l.tokens.items placed rest
          ∙ ap (λ ps. before ps rest) (sym c.in_ok-push-in-Found.ensures.items);
      within = omega arith;
    }

pub returns-in-Faulty : goal.returns-in-Faulty
returns-in-Faulty c =
    let d = c.args.text.now in
    let l = c.loop-at in
    let e = end_of c.args.is_whole in
    let more : l.at < length d = c.loop-at-test.true in
    let is : faulty c.in-Faulty.distance ≡ lexeme (get_or d l.at 0) (drop (l.at + 1) d) = sym (ap lexeme_view c.in-Faulty.is) ∙ c.in_ok-more.ensures.value in
    sym (l.invariant.so_far ∙ ap (before l.tokens.items) (at_fault e d l.at c.in-Faulty.distance more is))

pub returns : goal.returns
returns c =
    let d = c.args.text.now in
    let l = c.loop-at in
    let e = end_of c.args.is_whole in
    let over : length d ≤ l.at = omega (arith, c.loop-at-test.false) in
    let ending : ending_view c.if-is_whole.ending ≡ e l.at = elim c.if-is_whole.branch [
      | then-is_whole w ↦ ap ending_view w.ending-is ∙ ap (λ b. end_of b l.at) (sym w.if-is_whole.true)
      | else-is_whole w ↦ ap ending_view w.ending-is ∙ ap (λ b. end_of b l.at) (sym w.if-is_whole.false)
    ] in
    ap (before l.tokens.items) ending ∙ sym (l.invariant.so_far ∙ ap (before l.tokens.items) (at_end e d l.at over))
