-- Statements, part by part.
use Rattle.std.proofs.Common.{◌≡◌, refl, sym, ap, ◌∙◌, ℕ, List, Option, Some, None, option_map, option_and_then, codes}
use Rattle.hp_model.specs.Values.{Name}
use Rattle.hp_model.specs.NotationTokens.{Mark, delete_mark, signal_mark, emit_mark, veto_mark, if_mark, else_mark, otherwise_mark, each_mark, for_mark, with_mark, as_mark}
use Rattle.hp_model.specs.NotationTokens.{sub_mark, open_parenthesis, close_parenthesis}
use Rattle.hp_model.specs.NotationForms as F
use Rattle.hp_model.specs.NotationForms.{Rows, setting_mark, operation_mark}
use Rattle.hp_model.specs.NotationPrint.{tight, space, line, Pieces, sign, free, name, expression_pieces, object_pieces, assignments_pieces, arguments_pieces, rows_pieces}
use Rattle.hp_model.specs.NotationPrint.{binding_pieces, apart_from, is_let, is_empty, body_after, body_pieces, statement_pieces}
use Rattle.hp_model.specs.NotationValues.{of_one, of_two, of_three}
use Rattle.hp_print.specs.Written.{step}

pub object_step : (c : Option Name) (e : Option F.Expression) (rest : Option Pieces)
    → of_three object_pieces c e rest ≡ step (name space) c (option_map (sign tight open_parenthesis) (step (λ v. expression_pieces v tight) e (option_map (sign tight close_parenthesis) rest)))
object_step None None rest = refl
object_step None (Some e) rest = refl
object_step (Some c) None rest = refl
object_step (Some c) (Some e) None = refl
object_step (Some c) (Some e) (Some k) = refl

set_plain : (depth : ℕ) (set : F.Setting) (c : Option Name) (e : Option F.Expression) (ps : Option (List F.Assignment)) (rest : Option Pieces)
    → step (λ s. statement_pieces s depth) (of_three (F.set_object set) c e ps) rest ≡ option_map (sign (line depth) (setting_mark set)) (of_three object_pieces c e (step assignments_pieces ps rest))
set_plain depth set None None None rest = refl
set_plain depth set None None (Some ps) rest = refl
set_plain depth set None (Some e) None rest = refl
set_plain depth set None (Some e) (Some ps) rest = refl
set_plain depth set (Some c) None None rest = refl
set_plain depth set (Some c) None (Some ps) rest = refl
set_plain depth set (Some c) (Some e) None rest = refl
set_plain depth set (Some c) (Some e) (Some ps) None = refl
set_plain depth set (Some c) (Some e) (Some ps) (Some k) = refl

pub set_step : (depth : ℕ) (set : F.Setting) (m : Mark) → m ≡ setting_mark set → (c : Option Name) (e : Option F.Expression) (ps : Option (List F.Assignment)) (rest : Option Pieces)
    → step (λ s. statement_pieces s depth) (of_three (F.set_object set) c e ps) rest ≡ option_map (sign (line depth) m) (of_three object_pieces c e (step assignments_pieces ps rest))
set_step depth set m is c e ps rest = set_plain depth set c e ps rest ∙ ap (λ n. option_map (sign (line depth) n) (of_three object_pieces c e (step assignments_pieces ps rest))) (sym is)

pub delete_step : (depth : ℕ) (c : Option Name) (e : Option F.Expression) (rest : Option Pieces)
    → step (λ s. statement_pieces s depth) (of_two F.delete c e) rest ≡ option_map (sign (line depth) delete_mark) (of_three object_pieces c e rest)
delete_step depth None None rest = refl
delete_step depth None (Some e) rest = refl
delete_step depth (Some c) None rest = refl
delete_step depth (Some c) (Some e) None = refl
delete_step depth (Some c) (Some e) (Some k) = refl

pub signal_step : (depth : ℕ) (x : Option Name) (es : Option (List F.Expression)) (rest : Option Pieces)
    → step (λ s. statement_pieces s depth) (of_two F.signal x es) rest ≡ option_map (sign (line depth) signal_mark) (step (name space) x (step (arguments_pieces) es rest))
signal_step depth None None rest = refl
signal_step depth None (Some es) rest = refl
signal_step depth (Some x) None rest = refl
signal_step depth (Some x) (Some es) None = refl
signal_step depth (Some x) (Some es) (Some k) = refl

pub emit_step : (depth : ℕ) (e : Option F.Expression) (rest : Option Pieces)
    → step (λ s. statement_pieces s depth) (of_one F.emit e) rest ≡ option_map (sign (line depth) emit_mark) (step (λ v. expression_pieces v space) e rest)
emit_step depth None rest = refl
emit_step depth (Some e) None = refl
emit_step depth (Some e) (Some k) = refl

pub veto_step : (depth : ℕ) (e : Option F.Expression) (rest : Option Pieces)
    → step (λ s. statement_pieces s depth) (of_one F.veto_with e) rest ≡ option_map (sign (line depth) veto_mark) (step (λ v. apart_from is_let v space) e rest)
veto_step depth None rest = refl
veto_step depth (Some e) None = refl
veto_step depth (Some e) (Some k) = refl

on_rule_plain : (depth : ℕ) (op : F.RuleOperation) (x : Option Name) (rest : Option Pieces)
    → step (λ s. statement_pieces s depth) (of_one (F.on_rule op) x) rest ≡ option_map (sign (line depth) (operation_mark op)) (step (name space) x rest)
on_rule_plain depth op None rest = refl
on_rule_plain depth op (Some x) None = refl
on_rule_plain depth op (Some x) (Some k) = refl

pub on_rule_step : (depth : ℕ) (op : F.RuleOperation) (m : Mark) → m ≡ operation_mark op → (x : Option Name) (rest : Option Pieces)
    → step (λ s. statement_pieces s depth) (of_one (F.on_rule op) x) rest ≡ option_map (sign (line depth) m) (step (name space) x rest)
on_rule_step depth op m is x rest = on_rule_plain depth op x rest ∙ ap (λ n. option_map (sign (line depth) n) (step (name space) x rest)) (sym is)

-- ---- with bodies

pub when_step : (depth : ℕ) (e : Option F.Expression) (b : Option F.Body) (c : Option F.Body) (rest : Option Pieces)
    → step (λ s. statement_pieces s depth) (of_three F.when e b c) rest ≡ option_map (sign (line depth) if_mark)
    (step (λ v. expression_pieces v space) e (step (λ b. body_pieces b depth) b (step (λ b. body_after else_mark (is_empty b) (body_pieces b depth)) c rest)))
when_step depth None None None rest = refl
when_step depth None None (Some c) rest = refl
when_step depth None (Some b) None rest = refl
when_step depth None (Some b) (Some c) rest = refl
when_step depth (Some e) None None rest = refl
when_step depth (Some e) None (Some c) rest = refl
when_step depth (Some e) (Some b) None rest = refl
when_step depth (Some e) (Some b) (Some c) None = refl
when_step depth (Some e) (Some b) (Some c) (Some k) = refl

pub each_step : (depth : ℕ) (r : Option Rows) (b : Option F.Body) (rest : Option Pieces)
    → step (λ s. statement_pieces s depth) (of_two F.each r b) rest ≡ option_map (sign (line depth) each_mark) (step (rows_pieces) r (step (λ b. body_pieces b depth) b rest))
each_step depth None None rest = refl
each_step depth None (Some b) rest = refl
each_step depth (Some r) None rest = refl
each_step depth (Some r) (Some b) None = refl
each_step depth (Some r) (Some b) (Some k) = refl

pub for_step : (depth : ℕ) (x : Option Name) (b : Option F.Body) (rest : Option Pieces)
    → step (λ s. statement_pieces s depth) (of_two F.for_answer x b) rest ≡ option_map (sign (line depth) for_mark) (step (name space) x (step (λ b. body_pieces b depth) b rest))
for_step depth None None rest = refl
for_step depth None (Some b) rest = refl
for_step depth (Some x) None rest = refl
for_step depth (Some x) (Some b) None = refl
for_step depth (Some x) (Some b) (Some k) = refl

pub with_step : (depth : ℕ) (x : Option Name) (c : Option Name) (e : Option F.Expression) (b : Option F.Body) (rest : Option Pieces)
    → step (λ s. statement_pieces s depth) (option_and_then (λ n. of_three (F.with_object n) c e b) x) rest ≡ option_map (sign (line depth) with_mark)
    (of_three object_pieces c e (option_map (sign space as_mark) (step (name space) x (step (λ v. body_pieces v depth) b rest))))
with_step depth None None None None rest = refl
with_step depth None None None (Some b) rest = refl
with_step depth None None (Some e) None rest = refl
with_step depth None None (Some e) (Some b) rest = refl
with_step depth None (Some c) None None rest = refl
with_step depth None (Some c) None (Some b) rest = refl
with_step depth None (Some c) (Some e) None rest = refl
with_step depth None (Some c) (Some e) (Some b) rest = refl
with_step depth (Some x) None None None rest = refl
with_step depth (Some x) None None (Some b) rest = refl
with_step depth (Some x) None (Some e) None rest = refl
with_step depth (Some x) None (Some e) (Some b) rest = refl
with_step depth (Some x) (Some c) None None rest = refl
with_step depth (Some x) (Some c) None (Some b) rest = refl
with_step depth (Some x) (Some c) (Some e) None rest = refl
with_step depth (Some x) (Some c) (Some e) (Some b) None = refl
with_step depth (Some x) (Some c) (Some e) (Some b) (Some k) = refl

pub let_step : (depth : ℕ) (x : Option Name) (a : Option F.Aggregate) (b : Option F.Body) (rest : Option Pieces)
    → step (λ s. statement_pieces s depth) (of_three F.with_value x a b) rest ≡ option_map (free (line depth) (codes "let")) (of_three binding_pieces x a (step (λ v. body_pieces v depth) b rest))
let_step depth None None None rest = refl
let_step depth None None (Some b) rest = refl
let_step depth None (Some a) None rest = refl
let_step depth None (Some a) (Some b) rest = refl
let_step depth (Some x) None None rest = refl
let_step depth (Some x) None (Some b) rest = refl
let_step depth (Some x) (Some a) None rest = refl
let_step depth (Some x) (Some a) (Some b) None = refl
let_step depth (Some x) (Some a) (Some b) (Some k) = refl

pub sub_step : (depth : ℕ) (b : Option F.Body) (c : Option F.Body) (rest : Option Pieces)
    → step (λ s. statement_pieces s depth) (of_two F.subtransaction b c) rest ≡ option_map (sign (line depth) sub_mark)
    (step (λ b. body_pieces b depth) b (step (λ b. body_after otherwise_mark (is_empty b) (body_pieces b depth)) c rest))
sub_step depth None None rest = refl
sub_step depth None (Some c) rest = refl
sub_step depth (Some b) None rest = refl
sub_step depth (Some b) (Some c) None = refl
sub_step depth (Some b) (Some c) (Some k) = refl
