use Rattle.std.proofs.Common.{rules, ◌≡◌, ◌+◌, ◌-◌, ◌≤◌, List, [], ◌∷◌, ◌++◌, length, Some, slice_get, sym, ap, ◌∙◌, subst, arith, length-append}
use Rattle.hp_model.specs.Cells.{over}
use Rattle.hp_store.specs.Changes.{changes}
use Rattle.hp_store.specs.Stack.{Stack, cells_in}
use Rattle.hp_sessions.specs.declared.entry.Entry.{Entry}
use Rattle.hp_sessions.specs.Tokens.{book_of}
use Rattle.hp_sessions.specs.Books.{Ledger, MayBeCommitted, IsKeptBook, entry_of}
use Rattle.hp_sessions.proofs.Legal.{keeps, there, replies}
use Rattle.hp_sessions.proofs.book.Book.append.Goals as goal

pub invariant_of-self : goal.invariant_of-self
invariant_of-self g c =
    let i = c.self.invariant in
    let same = sym c.make_ready.ensures.history in
    let store = sym c.in_default.ensures.err in (
      i.0,
      i.1,
      i.2,
      subst (λ h. c.self.inside.token.me ≡ (book_of h, [])) same i.3,
      subst (λ (p : Stack × List Entry). IsKeptBook c.self.inside.library.value c.self.inside.opening p.0 p.1) (λ j. (store j, same j)) i.4,
      subst (λ (h : List Entry). length h ≤ 100000) same i.5,
    )

pub invariant_of-result : goal.invariant_of-result
invariant_of-result g c =
    let i = c.self.invariant in
    let e = entry_of c.args.session c.args.unit in
    let list : c.copy_of.result.me.0.list ≡ c.self.inside.history.items ++ e ∷ [] = search rules in
    let items : c.push_reserved.new.self.items ≡ c.self.inside.history.items ++ e ∷ [] = search rules in
    let number : c.len-number.result ≡ length c.self.inside.history.items + 1 =
    omega (arith, c.len-number.ensures, ap length items, length-append c.self.inside.history.items (e ∷ [])) in
    (search rules, search rules, omega (arith, number), replies c.self.inside.history.items c.copy_of.result.me.0.list e c.len-number.result c.in-Ok.reply list number c.in-Ok.ensures.reply)

pub invariant_of-self-2 : goal.invariant_of-self-2
invariant_of-self-2 g c =
    let i = c.self.invariant in
    let b : Ledger = record { library = c.self.inside.library.value; opening = c.self.inside.opening; store = c.self.inside.store; history = c.self.inside.history.items } in
    let e = entry_of c.args.session c.args.unit in
    let might : MayBeCommitted b c.args.unit = subst (λ l. MayBeCommitted l c.args.unit) (sym c.self.view_is) c.requires in
    let items : c.push_reserved.new.self.items ≡ c.self.inside.history.items ++ e ∷ [] = search rules in
    let me : c.append.new.book.me ≡ (book_of c.push_reserved.new.self.items, []) = search rules in (
      i.0,
      i.1,
      c.copy_of.ensures.same.0 ∙ c.append.ensures.0 ∙ i.2,
      c.copy_of.ensures.same.1 ∙ me,
      keeps b c.args.session c.args.unit c.make_ready.new.store c.push_reserved.new.self.items i.4 c.into_parts-body.ensures.sound might c.in-Ok.ensures.store items,
      omega (arith, ap length items, length-append c.self.inside.history.items (e ∷ []), might.0.1),
    )

pub returns-clause-ok : goal.returns-clause-ok
returns-clause-ok g c =
    let e = entry_of c.args.session c.args.unit in
    let list : c.copy_of.result.me.0.list ≡ c.self.inside.history.items ++ e ∷ [] = search rules in
    let items : c.push_reserved.new.self.items ≡ c.self.inside.history.items ++ e ∷ [] = search rules in
    let number : c.len-number.result ≡ length c.self.inside.history.items + 1 =
    omega (arith, c.len-number.ensures, ap length items, length-append c.self.inside.history.items (e ∷ [])) in
    let stands : slice_get c.copy_of.result.me.0.list (c.len-number.result - 1) ≡ Some e = there c.self.inside.history.items c.copy_of.result.me.0.list e c.len-number.result list number in
    let history : c.self.inside.history.items ≡ c.args.self.now.history = ap (λ (l : Ledger). l.history) c.self.view_is in
    record {
      sound = c.into_parts-body.ensures.sound;
      might = c.requires;
      library = ap (λ (l : Ledger). l.library) c.self.view_is;
      opening = ap (λ (l : Ledger). l.opening) c.self.view_is;
      store = c.in-Ok.ensures.store ∙ ap (λ (l : Ledger). over (cells_in l.store) (changes c.args.unit.layer)) c.self.view_is;
      history = items ∙ ap (λ (h : List Entry). h ++ e ∷ []) history;
      receipt = λ j. record { number = (number ∙ ap (λ (h : List Entry). length h + 1) history) j; entry = stands j };
    }
