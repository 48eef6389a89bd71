-- Events, part by part.
use Rattle.std.proofs.Common.{◌≡◌, refl, sym, ap, ◌∙◌, ℕ, ◌||◌, Option, Some, None, option_map, codes}
use Rattle.hp_model.specs.Values.{Name}
use Rattle.hp_model.specs.NotationTokens.{Mark, signal_mark, until_mark, open_parenthesis, close_parenthesis}
use Rattle.hp_model.specs.NotationForms as F
use Rattle.hp_model.specs.NotationForms.{change_mark}
use Rattle.hp_model.specs.NotationPrint.{Gap, tight, space, Pieces, sign, free, name, natural, enclosed_if, is_or, is_then, event_pieces}
use Rattle.hp_model.specs.NotationValues.{of_one, of_two}
use Rattle.hp_print.specs.Written.{step}
use Rattle.hp_print.specs.Events.{joint_mark, joint_view, other_joint}
use Rattle.hp_print.specs.declared.event.Joint.{Joint}
use Rattle.hp_print.specs.declared.event.Joint.TheVariants.{Or, Then}

on_change_plain : (gap : Gap) (kind : F.Change) (x : Option Name) (rest : Option Pieces)
    → step (λ e. event_pieces e gap) (of_one (F.on_change kind) x) rest ≡ option_map (sign gap (change_mark kind)) (step (name space) x rest)
on_change_plain gap kind None rest = refl
on_change_plain gap kind (Some x) None = refl
on_change_plain gap kind (Some x) (Some k) = refl

pub on_change_step : (gap : Gap) (kind : F.Change) (m : Mark) → m ≡ change_mark kind → (x : Option Name) (rest : Option Pieces)
    → step (λ e. event_pieces e gap) (of_one (F.on_change kind) x) rest ≡ option_map (sign gap m) (step (name space) x rest)
on_change_step gap kind m is x rest = on_change_plain gap kind x rest ∙ ap (λ n. option_map (sign gap n) (step (name space) x rest)) (sym is)

pub on_signal_step : (gap : Gap) (x : Option Name) (rest : Option Pieces)
    → step (λ e. event_pieces e gap) (of_one F.on_signal x) rest ≡ option_map (sign gap signal_mark) (step (name space) x rest)
on_signal_step gap None rest = refl
on_signal_step gap (Some x) None = refl
on_signal_step gap (Some x) (Some k) = refl

pub at_moment_step : (gap : Gap) (t : Option ℕ) (rest : Option Pieces)
    → step (λ e. event_pieces e gap) (of_one F.at_moment t) rest ≡ option_map (free gap (codes "moment")) (step (natural space) t rest)
at_moment_step gap None rest = refl
at_moment_step gap (Some t) None = refl
at_moment_step gap (Some t) (Some k) = refl

pub every_moment_step : (gap : Gap) (t : Option ℕ) (n : Option ℕ) (rest : Option Pieces)
    → step (λ e. event_pieces e gap) (of_two F.every_moment t n) rest ≡ option_map (free gap (codes "every"))
    (step (natural space) n (option_map (free space (codes "from")) (step (natural space) t rest)))
every_moment_step gap None None rest = refl
every_moment_step gap None (Some n) rest = refl
every_moment_step gap (Some t) None rest = refl
every_moment_step gap (Some t) (Some n) None = refl
every_moment_step gap (Some t) (Some n) (Some k) = refl

joined_plain : (gap : Gap) (joint : Joint) (a b : Option F.Event) (rest : Option Pieces)
    → step (λ e. event_pieces e gap) (of_two (joint_view joint) a b) rest
    ≡ step (λ e. enclosed_if (other_joint joint e) (event_pieces e) gap) a (option_map (sign space (joint_mark joint)) (step (λ e. enclosed_if (is_or e || is_then e) (event_pieces e) space) b rest))
joined_plain gap Or None None rest = refl
joined_plain gap Or None (Some b) rest = refl
joined_plain gap Or (Some a) None rest = refl
joined_plain gap Or (Some a) (Some b) None = refl
joined_plain gap Or (Some a) (Some b) (Some k) = refl
joined_plain gap Then None None rest = refl
joined_plain gap Then None (Some b) rest = refl
joined_plain gap Then (Some a) None rest = refl
joined_plain gap Then (Some a) (Some b) None = refl
joined_plain gap Then (Some a) (Some b) (Some k) = refl

pub joined_step : (gap : Gap) (joint : Joint) (m : Mark) (a b : Option F.Event) → m ≡ joint_mark joint → (rest : Option Pieces)
    → step (λ e. event_pieces e gap) (of_two (joint_view joint) a b) rest
    ≡ step (λ e. enclosed_if (other_joint joint e) (event_pieces e) gap) a (option_map (sign space m) (step (λ e. enclosed_if (is_or e || is_then e) (event_pieces e) space) b rest))
joined_step gap joint m a b is rest =
    joined_plain gap joint a b rest
    ∙ ap (λ n. step (λ e. enclosed_if (other_joint joint e) (event_pieces e) gap) a (option_map (sign space n) (step (λ e. enclosed_if (is_or e || is_then e) (event_pieces e) space) b rest))) (sym is)

pub closure_step : (gap : Gap) (a : Option F.Event) (b : Option F.Event) (rest : Option Pieces)
    → step (λ e. event_pieces e gap) (of_two F.closure_event a b) rest ≡ option_map (free gap (codes "closure"))
    (option_map (sign tight open_parenthesis)
    (step (λ e. event_pieces e tight) a (option_map (sign space until_mark) (step (λ e. event_pieces e space) b (option_map (sign tight close_parenthesis) rest)))))
closure_step gap None None rest = refl
closure_step gap None (Some b) rest = refl
closure_step gap (Some a) None rest = refl
closure_step gap (Some a) (Some b) None = refl
closure_step gap (Some a) (Some b) (Some k) = refl
