-- The byte of each letter.
use Rattle.std.specs.Prelude.{ℕ}
use Rattle.b67_deeds.specs.declared.Letter.{Letter}
use Rattle.b67_deeds.specs.declared.Letter.TheVariants.{Read, Index, ElementRead, Resolve, Store, ElementStore, Pass, Enter, Leave, MakeArrays, MakeEvent, Select, Turn, GoTo, Line, Start, End, Fault, Wait, Cause, Reset, Happened, Procure, Liberate, WaitAny, Woke, CauseAndReset, Available, Fix}

abbrev pub byte_of : Letter → ℕ
byte_of Read = 82
byte_of Index = 73
byte_of ElementRead = 81
byte_of Resolve = 80
byte_of Store = 83
byte_of ElementStore = 84
byte_of Pass = 65
byte_of Enter = 69
byte_of Leave = 76
byte_of MakeArrays = 77
byte_of MakeEvent = 86
byte_of Select = 67
byte_of Turn = 85
byte_of GoTo = 71
byte_of Line = 87
byte_of Start = 66
byte_of End = 88
byte_of Fault = 70
byte_of Wait = 119
byte_of Cause = 99
byte_of Reset = 114
byte_of Happened = 104
byte_of Procure = 112
byte_of Liberate = 108
byte_of WaitAny = 97
byte_of Woke = 107
byte_of CauseAndReset = 100
byte_of Available = 118
byte_of Fix = 102
