-- A signal, and the statement that fires a rule, on a view.
use Rattle.std.proofs.Common.{arith, ◌≡◌, refl, ap, sym, ◌∙◌, subst, ℕ, suc, ◌<◌, ◌≤◌, List, [], ◌∷◌, map, length, Option, Some, None, is_some, true, false}
use Rattle.std.specs.Prelude.{slice_get}
use Rattle.hp_model.specs.Values.{missing, depth_exceeded}
use Rattle.hp_model.specs.Occurrences.{Primitive, no_occurrence}
use Rattle.hp_model.specs.Rules.{Rule, no_rule, Library}
use Rattle.hp_model.specs.State.{Status, absent, enabled, disabled, rule_state, extended}
use Rattle.hp_model.specs.Tree.{Task}
use Rattle.hp_model.specs.Transactions.{abort_by}
use Rattle.hp_model.specs.Firing.{level_at, triggered, signal_in, fired_task, start_fired}
use Rattle.hp_model.specs.Soundness.{Faithful}
use Rattle.hp_model.specs.Answers.{FaithfulWork, ended}
use Rattle.hp_model.proofs.Faithful.{Grows-same}
use Rattle.hp_model.proofs.FaithfulFirings.{AreAt, faithful_start_deep, faithful_signal}
use Rattle.hp_model.proofs.FaithfulOperations.{finds_unknown, faithful_fire, faithful_fire_missing}
use Rattle.hp_view.specs.Seeing.{Seeing, written}
use Rattle.hp_ops.specs.Notified.{AllNotified, at_depth, condition_task}
use Rattle.hp_store.specs.declared.value.Status.{Status as RustStatus}
use Rattle.hp_store.specs.declared.value.Status.TheVariants.{Enabled, Disabled}
use Rattle.hp_ops.specs.Performs.{status_of}
use Rattle.hp_ops.specs.Triggers.{IsTriggered, IsFired}
use Rattle.hp_ops.proofs.Ruling.{StatusFound, past_end, found_at}
use Rattle.hp_ops.proofs.Notices.{same_depth}

-- a rule's status, and none
pub is_absent : (o : Option RustStatus) → is_some o ≡ false → status_of o ≡ absent
is_absent None h = refl
is_absent (Some s) h = cc

pub is_there : (o : Option RustStatus) → is_some o ≡ true → status_of o ≡ absent → ⊥
is_there None h e = cc
is_there (Some Enabled) h e = cc
is_there (Some Disabled) h e = cc

-- a mapped list is empty exactly if its source is
pub none_seen : {A B : Type 0} (f : A → B) (xs : List A) → length xs ≡ 0 → map f xs ≡ []
none_seen f [] h = refl
none_seen f (x ∷ xs) h = absurd (omega arith)

pub some_seen : {A B : Type 0} (f : A → B) (xs : List A) → (length xs ≡ 0 → ⊥) → map f xs ≡ [] → ⊥
some_seen f [] some e = some refl
some_seen f (x ∷ xs) some e = cc

-- ---- a signal

module _ (library : Library) (now depth : ℕ) (p : Primitive) (v w : Seeing) (tasks : List Task) (all : AllNotified library now p v w tasks) where
  pub triggers_none : tasks ≡ [] → IsTriggered library now depth p v w tasks
  triggers_none none = record {
    heard = subst (Faithful library (λ S. triggered (level_at library now depth) (extended p S)) (extended p) w.reads (written v) (written w))
        (ap (map (at_depth (suc depth))) none ∙ sym none) (all.heard depth);
    at = subst (AreAt (suc depth)) (sym none) tt;
    within = λ t ts is. absurd (apart t ts (sym none ∙ is));
  }
    where
      apart : (t : Task) (ts : List Task) → [] ≡ t ∷ ts → ⊥
      apart t ts e = cc

  pub triggers_some : AreAt (suc depth) tasks → depth < library.depth_limit → IsTriggered library now depth p v w tasks
  triggers_some at within = record {
    heard = subst (Faithful library (λ S. triggered (level_at library now depth) (extended p S)) (extended p) w.reads (written v) (written w)) (same_depth (suc depth) tasks at) (all.heard depth);
    at = at;
    within = λ t ts is. within;
  }

  pub triggers_deep : (tasks ≡ [] → ⊥) → library.depth_limit ≤ depth
      → FaithfulWork library (signal_in (level_at library now depth) p) w.reads (written v) (written w) (ended (abort_by depth_exceeded))
  triggers_deep some deep = by tasks some (all.heard depth)
    where
      by : (ts : List Task) → (ts ≡ [] → ⊥)
          → Faithful library (λ S. triggered (level_at library now depth) (extended p S)) (extended p) w.reads (written v) (written w) (map (at_depth (suc depth)) ts)
          → FaithfulWork library (signal_in (level_at library now depth) p) w.reads (written v) (written w) (ended (abort_by depth_exceeded))
      by [] some heard = absurd (some refl)
      by (t ∷ ts) some heard =
          faithful_signal (level_at library now depth) p (Grows-same w.reads) heard (faithful_start_deep now depth (at_depth (suc depth) t) (map (at_depth (suc depth)) ts) deep)

-- ---- the statement `fire`

module _ (library : Library) (now depth n : ℕ) (w : Seeing) where
  pub fires_unknown : slice_get library.rules n ≡ None
      → FaithfulWork library (λ S. start_fired (rule_state S n).status (level_at library now depth) n S) w.reads (written w) (written w) (ended (abort_by missing))
  fires_unknown none = faithful_fire_missing (level_at library now depth) n (finds_unknown n (past_end library.rules n none))

  pub fires_absent : (s : Status) → StatusFound library n w s → s ≡ absent
      → FaithfulWork library (λ S. start_fired (rule_state S n).status (level_at library now depth) n S) w.reads (written w) (written w) (ended (abort_by missing))
  fires_absent s finds is = faithful_fire_missing (level_at library now depth) n (subst (StatusFound library n w) is finds)

  pub fires_deep : (s : Status) → StatusFound library n w s → (s ≡ absent → ⊥) → library.depth_limit ≤ depth
      → FaithfulWork library (λ S. start_fired (rule_state S n).status (level_at library now depth) n S) w.reads (written w) (written w) (ended (abort_by depth_exceeded))
  fires_deep s finds there deep = faithful_fire (level_at library now depth) n finds (by s there)
    where
      by : (s : Status) → (s ≡ absent → ⊥) → FaithfulWork library (start_fired s (level_at library now depth) n) w.reads (written w) (written w) (ended (abort_by depth_exceeded))
      by absent there = absurd (there refl)
      by enabled there = faithful_start_deep now depth (fired_task (level_at library now depth) n) [] deep
      by disabled there = faithful_start_deep now depth (fired_task (level_at library now depth) n) [] deep

  pub fires_task : (s : Status) (rule : Rule) (t : Task) → slice_get library.rules n ≡ Some rule → StatusFound library n w s → (s ≡ absent → ⊥) → depth < library.depth_limit
      → t ≡ condition_task n rule.event_coupling now (suc depth) no_occurrence → IsFired library now depth n w t
  fires_task s rule t at finds there within is = record {
    status = s;
    finds = finds;
    there = there;
    is = is ∙ ap (λ (r : Rule). condition_task n r.event_coupling now (suc depth) no_occurrence) (sym (found_at library.rules n rule no_rule at).1);
    within = within;
  }
