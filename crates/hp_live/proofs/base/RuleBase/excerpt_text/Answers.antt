use Rattle.std.proofs.Common.{rules, ◌∙◌, ap, sym, subst, string_bytes, SFits, w64}
use Rattle.std.proofs.lemmas.Int.{to_z-of_z}
use Rattle.std.proofs.lemmas.Result.{IfOk-weaker}
use Rattle.hp_rule.specs.Mapped.{library}
use Rattle.hp_store.specs.Stack.{cells_in}
use Rattle.hp_report.specs.Stored.{IsClassText, IsObjectText, IsStateText}
use Rattle.hp_script.specs.Asked.{excerpt}
use Rattle.hp_lines.specs.Live.{excerpt_text}
use Rattle.hp_live.proofs.base.RuleBase.excerpt_text.Goals as goal

pub returns-in-State : goal.returns-in-State
returns-in-State c =
    let kept = c.args.self.now in
    IfOk-weaker c.state_text.result _ _ (λ text is base stands.
    let shown : IsStateText base.library (cells_in kept.store) (string_bytes text) =
    subst (λ l. IsStateText l (cells_in kept.store) (string_bytes text)) (ap library c.deref.ensures ∙ sym stands.library_is) is in
    shown.from base.state stands.ordered stands.cells_are ∙ ap (λ e. excerpt_text base.library base.state (excerpt e)) (sym c.in-State.is)) c.state_text.ensures

pub returns-in-Class : goal.returns-in-Class
returns-in-Class c =
    let kept = c.args.self.now in
    let class = c.in-Class.class in
    IfOk-weaker c.class_text.result _ _ (λ text is base stands.
    let shown : IsClassText base.library (cells_in kept.store) class (string_bytes text) =
    subst (λ l. IsClassText l (cells_in kept.store) class (string_bytes text)) (ap library c.deref-in-Class.ensures ∙ sym stands.library_is) is in
    shown.from base.state stands.ordered stands.cells_are ∙ ap (λ e. excerpt_text base.library base.state (excerpt e)) (sym c.in-Class.is)) c.class_text.ensures

pub returns-in-Object : goal.returns-in-Object
returns-in-Object c =
    let kept = c.args.self.now in
    let class = c.in-Object.class in
    let key = c.in-Object.key in
    let fits : SFits w64 key = search rules in
    IfOk-weaker c.object_text.result _ _ (λ text is base stands.
    let there : IsObjectText (library c.deref-in-Object.result.now) (cells_in kept.store) class key (string_bytes text) =
    subst (λ k. IsObjectText (library c.deref-in-Object.result.now) (cells_in kept.store) class k (string_bytes text)) (to_z-of_z w64 key fits) is in
    let shown : IsObjectText base.library (cells_in kept.store) class key (string_bytes text) =
    subst (λ l. IsObjectText l (cells_in kept.store) class key (string_bytes text)) (ap library c.deref-in-Object.ensures ∙ sym stands.library_is) there in
    shown.from base.state stands.cells_are ∙ ap (λ e. excerpt_text base.library base.state (excerpt e)) (sym c.in-Object.is)) c.object_text.ensures
