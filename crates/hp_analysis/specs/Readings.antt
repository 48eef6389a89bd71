-- What readings of parts stand for in the definitions.
use Rattle.hp_analysis.specs.Findings as F
use Rattle.hp_analysis.specs.declared.kinds.part.Reading.{Reading}
use Rattle.hp_analysis.specs.declared.kinds.part.Reading.TheVariants.{New, Old, Key, Argument, Time}

abbrev pub reading : Reading → F.Reading
reading (New f) = F.read_new f.now
reading (Old f) = F.read_old f.now
reading Key = F.read_key
reading (Argument j) = F.read_argument j
reading Time = F.read_time
