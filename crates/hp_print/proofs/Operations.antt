-- Statements of a word and a part.
use Rattle.std.proofs.Common.{◌≡◌, refl, ap, ◌∙◌, Bool, true, false, List, ℕ, codes, Some, None}
use Rattle.std.specs.Prelude.{if◌then◌else◌, bytes_eq, option_and_then}
use Rattle.std.specs.Option.{option_or}
use lib.Pointwise.{bytes_decides}
use Rattle.serde_json.specs.Data.{Data}
use Rattle.hp_model.specs.Json.{beside}
use Rattle.hp_model.specs.Parts.{name_of}
use Rattle.hp_model.specs.NotationForms as F
use Rattle.hp_model.specs.NotationValues.{chosen, of_one, rule_operation_of, statements_of_one, statement_of_one}
use Rattle.hp_print.proofs.Levels.{or_none}

none_of_word : (word key : List ℕ) (a : Data) → word ≡ key → chosen (beside key (statements_of_one a)) ≡ None → chosen (beside word (statements_of_one a)) ≡ None
none_of_word word key a is none = ap (λ w. chosen (beside w (statements_of_one a))) is ∙ none

none_beside : (word : List ℕ) (op : F.RuleOperation) (a : Data) → rule_operation_of word ≡ Some op → chosen (beside word (statements_of_one a)) ≡ None
none_beside word op a is =
    go (bytes_eq word (codes "install")) (bytes_eq word (codes "enable")) (bytes_eq word (codes "disable")) (bytes_eq word (codes "remove")) (bytes_eq word (codes "fire")) refl refl refl refl refl is
  where
    go : (b1 b2 b3 b4 b5 : Bool) → bytes_eq word (codes "install") ≡ b1 → bytes_eq word (codes "enable") ≡ b2 → bytes_eq word (codes "disable") ≡ b3
        → bytes_eq word (codes "remove") ≡ b4 → bytes_eq word (codes "fire") ≡ b5
        → (if b1 then Some F.install else (if b2 then Some F.enable else (if b3 then Some F.disable else (if b4 then Some F.remove else (if b5 then Some F.fire else None))))) ≡ Some op
        → chosen (beside word (statements_of_one a)) ≡ None
    go true b2 b3 b4 b5 e1 e2 e3 e4 e5 found = none_of_word word (codes "install") a ((bytes_decides word (codes "install")).0 e1) refl
    go false true b3 b4 b5 e1 e2 e3 e4 e5 found = none_of_word word (codes "enable") a ((bytes_decides word (codes "enable")).0 e2) refl
    go false false true b4 b5 e1 e2 e3 e4 e5 found = none_of_word word (codes "disable") a ((bytes_decides word (codes "disable")).0 e3) refl
    go false false false true b5 e1 e2 e3 e4 e5 found = none_of_word word (codes "remove") a ((bytes_decides word (codes "remove")).0 e4) refl
    go false false false false true e1 e2 e3 e4 e5 found = none_of_word word (codes "fire") a ((bytes_decides word (codes "fire")).0 e5) refl
    go false false false false false e1 e2 e3 e4 e5 found = cc

-- a word that says what is done to a rule makes such a statement
pub on_rule_form : (word : List ℕ) (op : F.RuleOperation) (a : Data) → rule_operation_of word ≡ Some op → statement_of_one word a ≡ of_one (F.on_rule op) (name_of a)
on_rule_form word op a is =
    ap (λ o. option_or (option_and_then (λ p. of_one (F.on_rule p) (name_of a)) o) (chosen (beside word (statements_of_one a)))) is
    ∙ or_none (of_one (F.on_rule op) (name_of a)) _ (none_beside word op a is)

pub other_statement : (word : List ℕ) (a : Data) → rule_operation_of word ≡ None → statement_of_one word a ≡ chosen (beside word (statements_of_one a))
other_statement word a is = ap (λ o. option_or (option_and_then (λ p. of_one (F.on_rule p) (name_of a)) o) (chosen (beside word (statements_of_one a)))) is
