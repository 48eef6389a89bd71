-- What became of a line, by what was read.
use Rattle.std.proofs.Common.{◌≡◌, ◌∙◌, refl, sym, ap, subst, List, ℕ, Result, Err, String, Global, string_bytes}
use Rattle.hp_model.specs.Report.{Bytes}
use Rattle.hp_script.specs.Timed.{TimedScript}
use Rattle.hp_script.specs.Requests.{Request}
use Rattle.hp_lines.specs.Live as L
use Rattle.hp_live.specs.Kept.{StandsFor, Answers}
use Rattle.hp_live.specs.Outcomes.{Replies, outcome_by}
use Rattle.hp_live.specs.declared.base.RuleBase.{RuleBase}
use Rattle.hp_live.specs.declared.server.Stage.{Stage}
use Rattle.hp_live.specs.declared.server.Stage.TheVariants.{Up, Closed}
use Rattle.hp_live.specs.declared.server.Reply.{Reply}
use Rattle.hp_live.proofs.Asked.{kept_request, asked_of}

-- the reply to a later line
pub replied : (reply : Reply) (text : String Global) (old new : RuleBase) (manner : L.Manner) (base : L.RuleBase) (line : List ℕ) (r : Result Request Bytes) → StandsFor old base
    → kept_request manner old line ≡ r
    → reply.text ≡ text → reply.outcome ≡ outcome_by r → Answers text (Up new) (L.answer manner (L.up base) line) → Replies reply (Up new) manner (L.up base) line
replied reply text old new manner base line r stands read is became answers = record {
  answers = subst (λ (t : String Global). Answers t (Up new) (L.answer manner (L.up base) line)) (sym is) answers;
  outcome_is = became ∙ sym (ap outcome_by (asked_of manner old base line r stands read));
}

-- the reply to a script
pub replied_first : (reply : Reply) (text : String Global) (new : Stage) (manner : L.Manner) (line : List ℕ) (r : Result TimedScript Bytes)
    → L.script_for manner line ≡ r
    → reply.text ≡ text → reply.outcome ≡ outcome_by r → Answers text new (L.opening_answer manner.with_tree r) → Replies reply new manner L.unopened line
replied_first reply text new manner line r read is became answers =
    let answers_line : Answers text new (L.answer manner L.unopened line) = subst (λ q. Answers text new (L.opening_answer manner.with_tree q)) (sym read) answers in
    record {
      answers = subst (λ (t : String Global). Answers t new (L.answer manner L.unopened line)) (sym is) answers_line;
      outcome_is = became ∙ sym (ap outcome_by read);
    }

-- a refused script
pub refused_first : (reply : Reply) (text : String Global) (manner : L.Manner) (line : List ℕ) → L.script_for manner line ≡ Err (string_bytes text)
    → reply.text ≡ text → reply.outcome ≡ outcome_by {A = TimedScript} (Err (string_bytes text)) → Replies reply Closed manner L.unopened line
refused_first reply text manner line read is became =
    replied_first reply text Closed manner line (Err (string_bytes text)) read is became (record { text_is = refl; stage_is = tt })
