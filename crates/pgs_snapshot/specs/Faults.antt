-- What a fault of the reading of one area is to the choice.
use Rattle.pgs_journal.specs.declared.scan_fault.ScanFault.{ScanFault}
use Rattle.pgs_journal.specs.declared.scan_fault.ScanFault.TheVariants as scans
use Rattle.pgs_snapshot.specs.declared.choose_fault.ChooseFault.{ChooseFault}
use Rattle.pgs_snapshot.specs.declared.choose_fault.ChooseFault.TheVariants as faults

abbrev pub of_scan : ScanFault → ChooseFault
of_scan scans.Memory = faults.Memory
of_scan scans.AreaFault = faults.DiskFault
