-- What comparisons of rules and libraries tell: they are true exactly where what the two stand for is equal.
use Rattle.std.proofs.Common.{◌≡◌, refl, ap, subst, sym, ℕ, Bool, List, string_bytes}
use lib.Pointwise.{pointwise, bytes_decides}
use Rattle.std.specs.Bool.{Decides}
use Rattle.std.specs.Cmp.{unsigned_Decides, booleans_Decides}
use Rattle.std.specs.Ordering.{on}
use Rattle.hp_model.specs.Values.{Name, ClassDef}
use Rattle.hp_model.specs.Events.{Event}
use Rattle.hp_model.specs.Rules as R
use Rattle.hp_value.specs.declared.occurrence.Coupling.{Coupling}
use Rattle.hp_value.specs.declared.occurrence.Coupling.TheVariants.{Immediate, Deferred, Separate, Dependent, Exclusive}
use Rattle.hp_value.specs.contracts.occurrence.CouplingPartialEq.TheImpl as couplings
use Rattle.hp_value.specs.contracts.row.ClassDefPartialEq.TheImpl as classes
use Rattle.hp_value.specs.Mapped.{coupling, class_def}
use Rattle.hp_value.specs.Same.{both_decide}
use Rattle.hp_value.specs.SameExpressions.{pair_decide}
use Rattle.hp_value.proofs.Told.{lists_told, classes_told}
use Rattle.hp_detect.specs.Mapped.{event}
use Rattle.hp_detect.specs.Same.{event_decides}
use Rattle.hp_query.specs.Mapped.{entry}
use Rattle.hp_query.specs.Same.{entry_same, entry_decides}
use Rattle.hp_rule.specs.declared.stmt.Stmt.{Stmt}
use Rattle.hp_rule.specs.declared.rule.Rule.{Rule}
use Rattle.hp_rule.specs.declared.library.Library.{Library}
use Rattle.hp_rule.specs.contracts.rule.RulePartialEq.TheImpl as rules
use Rattle.hp_rule.specs.contracts.library.LibraryPartialEq.TheImpl as libraries
use Rattle.hp_rule.specs.Statements.{statement, body_in, rule}
use Rattle.hp_rule.specs.Libraries.{library}
use Rattle.hp_rule.specs.SameStatements.{statement_same, body_decides}
use Rattle.hp_rule.proofs.Compared.{bodies_same}

bodies_told : (a b : List Stmt) → Decides (pointwise (on statement statement_same) a b) (body_in a ≡ body_in b)
bodies_told a b = subst (λ x. Decides x (body_in a ≡ body_in b)) (sym (bodies_same a b)) (body_decides (body_in a) (body_in b))

couplings_told : (c d : Coupling) → Decides (couplings.ghosts.eq c d) (coupling c ≡ coupling d)
couplings_told Immediate Immediate = (λ e. refl, λ e. refl)
couplings_told Deferred Deferred = (λ e. refl, λ e. refl)
couplings_told Separate Separate = (λ e. refl, λ e. refl)
couplings_told Dependent Dependent = (λ e. refl, λ e. refl)
couplings_told Exclusive Exclusive = (λ e. refl, λ e. refl)
couplings_told c d = (λ e. cc, λ e. cc)

rules_told : (r s : Rule) → Decides (rules.ghosts.eq r s) (rule r ≡ rule s)
rules_told r s =
    let make : Name → Event → R.Coupling → List R.Entry → R.Coupling → R.Body → Bool
    → R.Rule = λ n e ec qs ac a c. record { name = n; event = e; event_coupling = ec; condition = qs; action_coupling = ac; action = a; closed = c } in
    both_decide _ _ (bytes_decides (string_bytes r.name) (string_bytes s.name))
    (pair_decide _ _ (event_decides (event r.event.value) (event s.event.value))
    (pair_decide _ _ (couplings_told r.ec s.ec)
    (pair_decide _ _ (lists_told entry (on entry entry_same) (λ a b. entry_decides (entry a) (entry b)) r.condition.items s.condition.items)
    (pair_decide _ _ (couplings_told r.ca s.ca) (pair_decide _ _ (bodies_told r.action.items s.action.items) (booleans_Decides r.closed s.closed))))))
    (λ e f i. make (e i) (f.0 i) (f.1.0 i) (f.1.1.0 i) (f.1.1.1.0 i) (f.1.1.1.1.0 i) (f.1.1.1.1.1 i))
    (λ e. (ap (λ x. x.name) e, (ap (λ x. x.event) e, (ap (λ x. x.event_coupling) e, (ap (λ x. x.condition) e, (ap (λ x. x.action_coupling) e, (ap (λ x. x.action) e, ap (λ x. x.closed) e)))))))

pub libraries_told : (a b : Library) → Decides (libraries.ghosts.eq a b) (library a ≡ library b)
libraries_told a b =
    let make : List ClassDef → List R.Rule → ℕ → R.Library = λ cs rs n. record { classes = cs; rules = rs; depth_limit = n } in
    both_decide _ _ (lists_told class_def classes.ghosts.eq classes_told a.classes.items b.classes.items)
    (pair_decide _ _ (lists_told rule rules.ghosts.eq rules_told a.rules.items b.rules.items) (unsigned_Decides a.depth_limit b.depth_limit))
    (λ e f i. make (e i) (f.0 i) (f.1 i)) (λ e. (ap (λ x. x.classes) e, (ap (λ x. x.rules) e, ap (λ x. x.depth_limit) e)))
