-- Which rules are listed for what primitive occurrences are of.
use Rattle.std.specs.Prelude.{ℕ, ◌==◌, Bool, true, false, List, bytes_eq}
use Rattle.hp_model.specs.Occurrences.{Primitive, created, updated, deleted, signalled, commit_reached, moment_reached}
use Rattle.hp_rule.specs.Noted.{of_class, of_name}
use Rattle.hp_rule.specs.declared.rule_lists.Subject.{Subject}
use Rattle.hp_rule.specs.declared.rule_lists.Subject.TheVariants.{Created, Updated, Deleted, Signalled, Commit, Moment}
use Rattle.hp_rule.specs.declared.rule_lists.RuleLists.{RuleLists}

-- whether the occurrence is of the subject
abbrev pub is_of : Subject → Primitive → Bool
is_of (Created c) (created class key new) = c == class
is_of (Updated c) (updated class key old new) = c == class
is_of (Deleted c) (deleted class key old) = c == class
is_of (Signalled x) (signalled name arguments) = bytes_eq x.now name
is_of Commit commit_reached = true
is_of Moment (moment_reached t) = true
is_of subject p = false

abbrev pub listed_of : RuleLists → Subject → List ℕ
listed_of lists (Created c) = of_class lists.created c
listed_of lists (Updated c) = of_class lists.updated c
listed_of lists (Deleted c) = of_class lists.deleted c
listed_of lists (Signalled x) = of_name lists.signalled x.now
listed_of lists Commit = lists.commit.items
listed_of lists Moment = lists.moments.items

-- the rules that are listed for the occurrence's subject
abbrev pub listed : RuleLists → Primitive → List ℕ
listed lists (created class key new) = of_class lists.created class
listed lists (updated class key old new) = of_class lists.updated class
listed lists (deleted class key old) = of_class lists.deleted class
listed lists (signalled name arguments) = of_name lists.signalled name
listed lists commit_reached = lists.commit.items
listed lists (moment_reached t) = lists.moments.items
