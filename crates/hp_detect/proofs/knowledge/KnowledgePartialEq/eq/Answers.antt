use Rattle.std.proofs.Common.{rules, ◌≡◌, sym, ◌∙◌}
use Rattle.hp_detect.specs.Same.{knowledge_same, knowledge_decides}
use Rattle.hp_detect.proofs.knowledge.KnowledgePartialEq.eq.Goals as goal

pub returns-clause-same : goal.returns-clause-same
returns-clause-same c =
    let is : c.eq.result ≡ knowledge_same c.args.self.now c.args.other.now = search rules in
    (λ t. (knowledge_decides c.args.self.now c.args.other.now).0 (sym is ∙ t), λ e. is ∙ (knowledge_decides c.args.self.now c.args.other.now).1 e)
