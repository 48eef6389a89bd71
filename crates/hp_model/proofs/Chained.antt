-- Worked rows of chains: what the definitions compute of these libraries.
use Rattle.std.specs.Prelude.{◌==◌}
use Rattle.std.proofs.Common.{◌≡◌, refl, ℕ, List, [], ◌∷◌, codes, true, false}
use Rattle.std.specs.Fmt.{digits}
use Rattle.hp_model.specs.Events.{Event, pattern_event, on_signal, on_commit, seq_event}
use Rattle.hp_model.specs.Rules.{immediate, separate, signal, subtransaction, fire, empty, ◌then◌}
use Rattle.hp_model.specs.Cascade.{transaction, Script}
use Rattle.hp_model.specs.Chains.{rule_triggers, library_within, is_safe, is_safe_script}
use Rattle.hp_model.specs.Idle.{with_idle}
use Rattle.hp_model.proofs.Scripts.{lines, rule, on, go, say, installs, script}
use Rattle.hp_model.proofs.Rows.{text_of, depth_limit_script}

abbrev hears : List ℕ → Event
hears name = pattern_event (on_signal name)

-- three rules, of which each signals what the next one waits for; the last one waits for a sequence, and its last part counts
abbrev chain_of : (limit : ℕ) → Script
chain_of limit =
    script [] limit
    (on (codes "a") (signal (codes "x") [] then empty)
    ∷ rule (codes "b") (hears (codes "x")) immediate [] immediate (subtransaction empty (signal (codes "y") [] then empty) then signal (codes "y") [] then empty)
    ∷ rule (codes "c") (seq_event (hears (codes "x")) (hears (codes "y"))) immediate [] immediate (say 1 then empty)
    ∷ [])
    (transaction 0 (installs 0 then installs 1 then installs 2 then go then empty) ∷ [])

chain_triggers : rule_triggers (chain_of 3).library (rule (codes "b") (hears (codes "x")) immediate [] immediate (signal (codes "y") [] then empty)) ≡ 2 ∷ []
chain_triggers = refl

chain_longest : library_within (chain_of 3).library 3 ≡ true
chain_longest = refl

chain_no_shorter : library_within (chain_of 3).library 2 ≡ false
chain_no_shorter = refl

chain_safe : is_safe (chain_of 3).library ≡ true
chain_safe = refl

chain_run : text_of (chain_of 3)
    ≡ lines (codes "unit 1 committed" ∷ codes "emit 1" ∷ codes "final" ∷ codes "rule a enabled" ∷ codes "rule b enabled" ∷ codes "rule c enabled" ∷ codes "end" ∷ [])
unfolding digits
chain_run = refl

-- one less, and the action of b meets the limit
chain_unsafe : is_safe (chain_of 2).library ≡ false
chain_unsafe = refl

chain_stopped : text_of (chain_of 2)
    ≡ lines (codes "unit 1 committed" ∷ codes "final" ∷ codes "rule a enabled" ∷ codes "rule b enabled" ∷ codes "rule c enabled" ∷ codes "end" ∷ [])
unfolding digits
chain_stopped = refl

-- a separate rule that waits for commits triggers itself, although its action does nothing
abbrev commits : Script
commits = script [] 16 (rule (codes "s") (pattern_event on_commit) separate [] immediate empty ∷ []) (transaction 0 (installs 0 then empty) ∷ [])

commits_unsafe : is_safe commits.library ≡ false
commits_unsafe = refl

-- an immediate one doesn't
commits_within : is_safe (script [] 1 (rule (codes "i") (pattern_event on_commit) immediate [] immediate empty ∷ []) []).library ≡ true
commits_within = refl

-- a rule that fires itself, which no unit begins
abbrev idle_cycle : Script
idle_cycle = script [] 1 (rule (codes "f") (hears (codes "never")) immediate [] immediate (fire 0 then empty) ∷ []) (transaction 0 (installs 0 then go then empty) ∷ [])

idle_cycle_unsafe : is_safe idle_cycle.library ≡ false
idle_cycle_unsafe = refl

idle_cycle_safe : is_safe_script idle_cycle ≡ true
idle_cycle_safe = refl

up_unsafe : is_safe_script depth_limit_script ≡ false
up_unsafe = refl

-- the same rule beside another one, which alone is installed: the script is safe, since the rule may as well do nothing
abbrev one_installed : Script
one_installed =
    script [] 16
    (on (codes "a") (say 1 then empty) ∷ rule (codes "s") (pattern_event on_commit) separate [] immediate empty ∷ [])
    (transaction 0 (installs 0 then go then empty) ∷ [])

unsafe_by_the_other : is_safe_script one_installed ≡ false
unsafe_by_the_other = refl

safe_without_it : is_safe_script (record { library = with_idle (λ n. n == 0) one_installed.library; units = one_installed.units }) ≡ true
safe_without_it = refl
