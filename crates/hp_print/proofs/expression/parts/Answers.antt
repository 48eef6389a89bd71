use Rattle.hp_print.proofs.expression.parts.Goals as goal

pub returns-in-of : goal.returns-in-of
returns-in-of c = rw c.in-of.is c.field_of.ensures

pub returns-in-new : goal.returns-in-new
returns-in-new c = rw c.in-new.is c.image_field.ensures

pub returns-in-old : goal.returns-in-old
returns-in-old c = rw c.in-old.is c.image_field-in-old.ensures

pub returns-in-arg : goal.returns-in-arg
returns-in-arg c = rw c.in-arg.is c.argument.ensures
