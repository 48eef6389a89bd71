use Rattle.std.proofs.Common.{◌∙◌, ◌++◌, ap, string_bytes}
use Rattle.hp_model.specs.Report.{Bytes}
use Rattle.hp_lines.specs.Live.{ok_line}
use Rattle.hp_live.proofs.base.RuleBase.show.Goals as goal

pub returns : goal.returns
returns c base stands =
    c.in_ok-put_ok.ensures ∙ ap (λ n. string_bytes c.in_ok-text.text ++ ok_line n) stands.units_are
    ∙ ap (λ (b : Bytes). b ++ ok_line base.units) (c.in_ok-text.ensures base stands)
