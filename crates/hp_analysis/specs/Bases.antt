-- What a library and what is declared of its signals stand for in the definitions.
use Rattle.hp_model.specs.Rules as R
use Rattle.hp_model.specs.Kinds as K
use Rattle.hp_rule.specs.Libraries as libraries
use Rattle.hp_analysis.specs.Declarations as declarations
use Rattle.hp_analysis.specs.declared.kinds.scope.Base.{Base}

abbrev pub library : Base → R.Library
library b = libraries.library b.library.now

abbrev pub declared : Base → K.Declared
declared b = declarations.declared b.declared.now
