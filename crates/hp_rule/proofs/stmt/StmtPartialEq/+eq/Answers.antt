use Rattle.std.proofs.Common.{rules}
use Rattle.hp_rule.specs.declared.stmt.Stmt.TheViews.{the_lemmas}
use Rattle.hp_rule.proofs.Bodies.{row_body_lem}
use Rattle.hp_rule.proofs.Compared.{expressions_same, assignments_same, bodies_same}
use Rattle.hp_rule.proofs.stmt.StmtPartialEq.+eq.Goals as goal

pub returns-then-eq : goal.returns-then-eq
returns-then-eq t c = search (rules, expressions_same)

pub returns-then-eq-3 : goal.returns-then-eq-3
returns-then-eq-3 t c = search (rules, the_lemmas, row_body_lem, bodies_same)

pub returns-else-eq-3 : goal.returns-else-eq-3
returns-else-eq-3 t c = search (rules, the_lemmas, row_body_lem, bodies_same)

pub returns-then-eq-4 : goal.returns-then-eq-4
returns-then-eq-4 t c = search (rules, the_lemmas, row_body_lem, bodies_same)

pub returns-then-eq-5 : goal.returns-then-eq-5
returns-then-eq-5 t c = search (rules, the_lemmas, row_body_lem, bodies_same)

pub returns-else-eq-5 : goal.returns-else-eq-5
returns-else-eq-5 t c = search (rules, the_lemmas, row_body_lem, bodies_same)

pub returns-then-eq-8 : goal.returns-then-eq-8
returns-then-eq-8 t c = search (rules, the_lemmas, row_body_lem, bodies_same)

pub returns-then-eq-7 : goal.returns-then-eq-7
returns-then-eq-7 t c = search (rules, the_lemmas, row_body_lem, bodies_same)

pub returns-then-eq-10 : goal.returns-then-eq-10
returns-then-eq-10 t c = search (rules, the_lemmas, row_body_lem, bodies_same)

pub returns-then-eq-11 : goal.returns-then-eq-11
returns-then-eq-11 t c = search (rules, assignments_same)
