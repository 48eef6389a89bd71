-- The answer to a later line, by the kind of request.
use Rattle.std.proofs.Common.{◌≡◌, ◌∙◌, ◌++◌, ap, refl, sym, subst, ℕ, List, string_bytes, String, Global, Bool, Result, Ok, Err, IfOk, OnOk}
use Rattle.hp_model.specs.Decode.{Schedule}
use Rattle.hp_model.specs.Report.{Bytes}
use Rattle.hp_rule.specs.Mapped.{library}
use Rattle.hp_script.specs.Requests as R
use Rattle.hp_script.specs.Versions.{version_view}
use Rattle.hp_script.specs.Requests.{Request}
use Rattle.hp_notation.specs.Readings.{request_in}
use Rattle.hp_lines.specs.Checked.{checked_by, request_fault}
use Rattle.hp_lines.specs.Live as L
use Rattle.hp_live.specs.Kept.{StandsFor, IsStage, Answers}
use Rattle.hp_live.specs.Running.{ran_base}
use Rattle.hp_live.specs.declared.base.RuleBase.{RuleBase}
use Rattle.hp_live.specs.declared.server.Stage.TheVariants.{Up}

-- what a line asks of what is kept
abbrev pub kept_request : L.Manner → RuleBase → List ℕ → Result Request Bytes
kept_request manner kept line =
    checked_by manner.checks (request_fault (library kept.library.value)) (request_in manner.is_text (version_view kept.version) (library kept.library.value) kept.clock line)

-- a line is read with what is kept as with what that stands for
pub asked_of : (manner : L.Manner) (kept : RuleBase) (base : L.RuleBase) (line : List ℕ) (r : Result Request Bytes) → StandsFor kept base
    → kept_request manner kept line ≡ r → L.request_for manner base line ≡ r
asked_of manner kept base line r stands read =
    ap (λ v. checked_by manner.checks (request_fault base.library) (request_in manner.is_text v base.library base.clock line)) stands.version_is
    ∙ ap (λ l. checked_by manner.checks (request_fault l) (request_in manner.is_text (version_view kept.version) l base.clock line)) stands.library_is
    ∙ ap (λ t. checked_by manner.checks (request_fault (library kept.library.value)) (request_in manner.is_text (version_view kept.version) (library kept.library.value) t line)) (sym stands.clock_is)
    ∙ read

-- by the kind of request
answers_by : (text : String Global) (kept : RuleBase) (manner : L.Manner) (base : L.RuleBase) (line : List ℕ) (r : Result Request Bytes)
    → L.request_for manner base line ≡ r
    → Answers text (Up kept) (L.later_answer manner.with_tree base r) → Answers text (Up kept) (L.answer manner (L.up base) line)
answers_by text kept manner base line r read answers = subst (λ q. Answers text (Up kept) (L.later_answer manner.with_tree base q)) (sym read) answers

pub answers_item : (text : String Global) (old new : RuleBase) (manner : L.Manner) (base : L.RuleBase) (line : List ℕ) (s : Schedule) → StandsFor old base
    → kept_request manner old line ≡ Ok (R.item s)
    → string_bytes text ≡ (L.ran manner.with_tree base s).body ++ (L.ran manner.with_tree base s).last → StandsFor new (ran_base base s) → Answers text (Up new) (L.answer manner (L.up base) line)
answers_item text old new manner base line s stands read is later =
    answers_by text new manner base line (Ok (R.item s)) (asked_of manner old base line (Ok (R.item s)) stands read) (record { text_is = is; stage_is = later })

pub answers_show : (text : String Global) (kept : RuleBase) (manner : L.Manner) (base : L.RuleBase) (line : List ℕ) (e : R.Excerpt) → StandsFor kept base
    → kept_request manner kept line ≡ Ok (R.show e)
    → string_bytes text ≡ L.excerpt_text base.library base.state e ++ L.ok_line base.units → Answers text (Up kept) (L.answer manner (L.up base) line)
answers_show text kept manner base line e stands read is =
    answers_by text kept manner base line (Ok (R.show e)) (asked_of manner kept base line (Ok (R.show e)) stands read) (record { text_is = is; stage_is = stands })

pub answers_refusal : (text : String Global) (kept : RuleBase) (manner : L.Manner) (base : L.RuleBase) (line : List ℕ) → StandsFor kept base
    → kept_request manner kept line ≡ Err (string_bytes text) → Answers text (Up kept) (L.answer manner (L.up base) line)
answers_refusal text kept manner base line stands read =
    answers_by text kept manner base line (Err (string_bytes text)) (asked_of manner kept base line (Err (string_bytes text)) stands read) (record { text_is = refl; stage_is = stands })

-- two facts of one result
pub both_ok : {T E : Type 0} (r : Result T E) (P : T → Type 0) (Q : Type 0) (R : T → Type 0) → IfOk r P → OnOk r Q → ((x : T) → P x → Q → R x) → IfOk r R
both_ok (Ok x) P Q R p q f = f x p q
both_ok (Err e) P Q R p q f = tt

-- a kept rule base that is up stands for one that is up
pub stands_up : (kept : RuleBase) (now : L.Stage) (A : L.Stage → Type 0) → IsStage (Up kept) now → ((base : L.RuleBase) → StandsFor kept base → A (L.up base)) → A now
stands_up kept L.unopened A is f = absurd is
stands_up kept (L.up base) A is f = f base is
stands_up kept L.closed A is f = absurd is
