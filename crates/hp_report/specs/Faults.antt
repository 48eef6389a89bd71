-- The faults of devices as those of a run.
use Rattle.hp_report.specs.declared.fault.Fault.{Fault}
use Rattle.hp_report.specs.declared.fault.Fault.TheVariants as fault
use Rattle.hp_report.specs.declared.input.ReadFault.{ReadFault}
use Rattle.hp_report.specs.declared.input.ReadFault.TheVariants as reading
use Rattle.hp_report.specs.declared.output.WriteFault.{WriteFault}
use Rattle.hp_report.specs.declared.output.WriteFault.TheVariants as writing

abbrev pub read_fault : ReadFault → Fault
read_fault reading.Read = fault.Read
read_fault reading.NoMemory = fault.NoMemory

abbrev pub write_fault : WriteFault → Fault
write_fault writing.Write = fault.Write
write_fault writing.NoMemory = fault.NoMemory
