-- With which statuses a run may end.
use Rattle.pgs_command.specs.declared.status.Status.{Status}
use Rattle.pgs_command.specs.declared.status.Status.TheVariants.{BadWords, PutFault, Memory}

-- a command: never with refused words
abbrev pub IsOfCommand : Status → Type 0
IsOfCommand BadWords = ⊥
IsOfCommand status = Unit {0}

-- refused words: they are refused, the put of their line failed, or there was no memory for it
abbrev pub IsOfWords : Status → Type 0
IsOfWords BadWords = Unit {0}
IsOfWords PutFault = Unit {0}
IsOfWords Memory = Unit {0}
IsOfWords status = ⊥
