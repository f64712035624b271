-- The code of a program whose blocks lie in one another is faithful to it.
use Rattle.algol_tree.specs.Plain.{PProgram}
use Rattle.algol_calls.specs.Texts.{HasTexts}
use Rattle.b67_segment.specs.declared.code.Code.{Code}
use Rattle.b67_templates.specs.Programs.{ProgramAt}
use Rattle.b67_templates.specs.Names.{HasNames}
use Rattle.b67_templates.specs.Nested.{LiesNested}
use Rattle.b67_listing.specs.Listings.{IsListable}
use Rattle.b67_faithful.specs.Faithful.{HasFormats, IsShortSegment, Faithful}
use Rattle.b67_settling.specs.Local.{StacksStayOwn}

-- Where the code of a program stands whose blocks lie in one another, as those of an accepted one do, whose procedures have names,
-- and whose names are seen and calls fit, and where it has the program's formats, is short and can be listed, it is faithful to the program.
abbrev pub NestedProgramsAreFaithful : Type 0
NestedProgramsAreFaithful =
    (tree : PProgram) (code : Code) → LiesNested tree → HasNames tree → HasTexts tree → ProgramAt code tree → HasFormats tree code → IsShortSegment tree code → IsListable code → Faithful tree code

-- And its stacks stay own: no operator of another process touches the stack of a process on which nobody depends.
abbrev pub NestedStacksStayOwn : Type 0
NestedStacksStayOwn =
    (tree : PProgram) (code : Code) → LiesNested tree → HasNames tree → HasTexts tree → ProgramAt code tree → HasFormats tree code → IsShortSegment tree code → IsListable code → StacksStayOwn code
