use Rattle.std.proofs.Common.{◌≡◌, drop}
use Rattle.hp_detect.specs.Mapped.{event}
use Rattle.hp_rule.specs.Places.{steps}
use Rattle.hp_rule.specs.Statements.{body_in}
use Rattle.hp_analysis.specs.Links.{body_link}
use Rattle.hp_analysis.proofs.links.+linking.Given as goal

-- the link of the rest of the body is that of all of it
abbrev pub invariant-body_link-loop-i : goal.invariant-body_link-loop-i
invariant-body_link-loop-i l =
    body_link l.target.number (event l.target.event.now) (steps l.place) l.i (body_in (drop l.i l.body)) ≡ body_link l.target.number (event l.target.event.now) (steps l.place) 0 (body_in l.body)
