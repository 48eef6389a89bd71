-- Comparing what two detectors keep compares what they know.
use Rattle.std.proofs.Common.{◌≡◌, refl, ap, sym, ◌∙◌, [], true, Option, None, Some}
use Rattle.std.specs.Prelude.{is_none}
use Rattle.std.specs.Option.{option_eq}
use Rattle.std.specs.declared.sync.Arc.{Arc}
use Rattle.std.specs.declared.alloc.Global.{Global}
use mathlib.Core.Bool.{true≢false}
use Rattle.hp_model.specs.Events.{Event, is_pure}
use Rattle.hp_model.specs.Knowledge.{knowledge}
use Rattle.hp_detect.specs.declared.known.Known.{Known}
use Rattle.hp_detect.specs.Mapped.{known, known_of}
use Rattle.hp_detect.specs.Same.{event_same, event_decides, knowledge_same, knowledge_decides}

pub kept_same : (v w : Event) (x y : Option (Arc Known Global)) → is_none x ≡ is_pure v → is_none y ≡ is_pure w → event_same v w ≡ true
    → option_eq (λ a b. knowledge_same (known a.value) (known b.value)) x y ≡ knowledge_same (known_of v x) (known_of w y)
kept_same v w None None f g e =
    sym ((knowledge_decides (knowledge v []) (knowledge w [])).1 (ap (λ a. knowledge a []) ((event_decides v w).0 e)))
kept_same v w (Some a) (Some b) f g e = refl
kept_same v w None (Some b) f g e = absurd (true≢false (f ∙ ap is_pure ((event_decides v w).0 e) ∙ sym g))
kept_same v w (Some a) None f g e = absurd (true≢false (g ∙ ap is_pure (sym ((event_decides v w).0 e)) ∙ sym f))
