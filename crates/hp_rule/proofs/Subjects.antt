-- What a pattern may match is of its subject.
use Rattle.std.proofs.Common.{◌≡◌, refl, ℕ}
use Rattle.std.specs.Borrow.{Bor}
use Rattle.hp_model.specs.Occurrences.{Primitive, created, updated, deleted, signalled, commit_reached, moment_reached}
use Rattle.hp_model.specs.Events.{on_create, on_update, on_delete, on_signal, on_commit, at_moment, every_moment}
use Rattle.hp_rule.specs.Index.{may_match}
use Rattle.hp_rule.specs.RuleLists.{is_of}
use Rattle.hp_rule.specs.declared.rule_lists.Subject.TheVariants.{Created, Updated, Deleted, Signalled, Commit, Moment}

pub is_created : (c : ℕ) (p : Primitive) → is_of (Created c) p ≡ may_match (on_create c) p
is_created c (created d key new) = refl
is_created c (updated d key old new) = refl
is_created c (deleted d key old) = refl
is_created c (signalled name arguments) = refl
is_created c commit_reached = refl
is_created c (moment_reached t) = refl

pub is_updated : (c : ℕ) (p : Primitive) → is_of (Updated c) p ≡ may_match (on_update c) p
is_updated c (created d key new) = refl
is_updated c (updated d key old new) = refl
is_updated c (deleted d key old) = refl
is_updated c (signalled name arguments) = refl
is_updated c commit_reached = refl
is_updated c (moment_reached t) = refl

pub is_deleted : (c : ℕ) (p : Primitive) → is_of (Deleted c) p ≡ may_match (on_delete c) p
is_deleted c (created d key new) = refl
is_deleted c (updated d key old new) = refl
is_deleted c (deleted d key old) = refl
is_deleted c (signalled name arguments) = refl
is_deleted c commit_reached = refl
is_deleted c (moment_reached t) = refl

pub is_signalled : (x : _) (p : Primitive) → is_of (Signalled x) p ≡ may_match (on_signal x.now) p
is_signalled x (created d key new) = refl
is_signalled x (updated d key old new) = refl
is_signalled x (deleted d key old) = refl
is_signalled x (signalled name arguments) = refl
is_signalled x commit_reached = refl
is_signalled x (moment_reached t) = refl

pub is_commit : (p : Primitive) → is_of Commit p ≡ may_match on_commit p
is_commit (created d key new) = refl
is_commit (updated d key old new) = refl
is_commit (deleted d key old) = refl
is_commit (signalled name arguments) = refl
is_commit commit_reached = refl
is_commit (moment_reached t) = refl

pub is_at : (t : ℕ) (p : Primitive) → is_of Moment p ≡ may_match (at_moment t) p
is_at t (created d key new) = refl
is_at t (updated d key old new) = refl
is_at t (deleted d key old) = refl
is_at t (signalled name arguments) = refl
is_at t commit_reached = refl
is_at t (moment_reached u) = refl

pub is_every : (first period : ℕ) (p : Primitive) → is_of Moment p ≡ may_match (every_moment first period) p
is_every first period (created d key new) = refl
is_every first period (updated d key old new) = refl
is_every first period (deleted d key old) = refl
is_every first period (signalled name arguments) = refl
is_every first period commit_reached = refl
is_every first period (moment_reached t) = refl
