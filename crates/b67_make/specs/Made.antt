-- The source that is made from a number. Its run adds up the numbers from 1 to that one, by a procedure for each, and counts the groups
-- of at most fifty of them, by a process for each.
use Rattle.std.specs.Prelude.{ℕ, ◌+◌, ◌-◌, ◌*◌, ◌/◌, min, List, ◌++◌, codes}
use Rattle.std.specs.List.{flat_map, range_with_len}
use Rattle.std.specs.Fmt.{decimal}
use Rattle.b67_make.specs.declared.TheConstants.{MOST_ADDED}

-- a line of a number, with these bytes before it and after it
abbrev pub line : List ℕ → List ℕ → ℕ → List ℕ
line start end i = start ++ decimal i ++ end

-- the procedure of a number, which adds it to a variable
abbrev pub adder : ℕ → List ℕ
adder i = codes "PROCEDURE P" ++ decimal i ++ codes "(X); INTEGER X; X:=X+" ++ decimal i ++ codes ";\n"

-- its call: the number is added to the sum
abbrev pub addition : ℕ → List ℕ
addition = line (codes "P") (codes "(S);\n")

-- the numbers of a group, of those up to n: so many as are left, and at most fifty
abbrev pub numbers_of_group : ℕ → ℕ → List ℕ
numbers_of_group n g = range_with_len (MOST_ADDED * g + 1) (min (n - MOST_ADDED * g) MOST_ADDED)

-- the procedure of a group: it starts a process that counts it, adds its numbers, and waits for that process
abbrev pub group : ℕ → ℕ → List ℕ
group n g =
    codes "PROCEDURE G" ++ decimal g ++ codes "; BEGIN\nTASK T;\n" ++ flat_map adder (numbers_of_group n g)
    ++ codes "PROCEDURE R; BEGIN PROCURE(E); D:=D+1; LIBERATE(E) END;\nPROCESS R[T];\n" ++ flat_map addition (numbers_of_group n g)
    ++ codes "WAIT(T.EXCEPTIONEVENT)\nEND;\n"

-- its call
abbrev pub call : ℕ → List ℕ
call = line (codes "G") (codes ";\n")

-- how many groups the numbers up to n are
abbrev pub groups_of : ℕ → ℕ
groups_of n = (n + MOST_ADDED - 1) / MOST_ADDED

-- the source: the procedures of the groups, their calls, and the line that is written
abbrev pub made : ℕ → List ℕ
made n =
    codes "BEGIN\nFILE LINE(KIND=PRINTER);\nINTEGER S,D;\nEVENT E;\n" ++ flat_map (group n) (range_with_len 0 (groups_of n))
    ++ flat_map call (range_with_len 0 (groups_of n)) ++ codes "WRITE(LINE,<I12,I12>,S,D)\nEND.\n"
