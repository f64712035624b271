-- The code of a source of one process is faithful to it.
use Rattle.std.proofs.Common.{Ok, Err, Result}
use Rattle.std.specs.Prelude.{IfOk}
use Rattle.std.specs.declared.alloc.AllocError.{AllocError}
use Rattle.algol_tree.specs.Plain.{PProgram}
use Rattle.b67_segment.specs.declared.code.Code.{Code}
use Rattle.b67_listing.specs.Listings.{IsListable}
use Rattle.b67_templates.specs.Programs.{ProgramAt}
use Rattle.b67_faithful.specs.Faithful.{HasFormats, IsShortSegment, Faithful}
use Rattle.b67_fitting.proofs.Nesting.{programs_lie_nested}
use Rattle.b67_pictures.proofs.Concluding.{nested_programs_are_faithful, nested_stacks_stay_own}
use Rattle.b67_settling.specs.Local.{StacksStayOwn}
use Rattle.algol_front.proofs.Ordered.{IsSource, source_in_order}
use Rattle.algol_texts.proofs.Programs.{texts_of_accepted_fit}
use Rattle.b67_compile.proofs.Sources.{source_accepted, source_named}

pub code_is_faithful : (tree : PProgram) (result : Result Code AllocError) → IsSource tree → IfOk result (λ code. ProgramAt code tree) → IfOk result (HasFormats tree) → IfOk result (IsShortSegment tree) → IfOk result IsListable →
    IfOk result (Faithful tree)
code_is_faithful tree (Ok code) source there formats short listable =
    let named = source_named tree source in
    nested_programs_are_faithful tree code (programs_lie_nested tree (source_accepted tree source) (source_in_order tree source) named) named
    (texts_of_accepted_fit tree (source_accepted tree source) (source_in_order tree source)) there formats short listable
code_is_faithful tree (Err e) source there formats short listable = there

-- and its stacks stay own
pub code_stacks : (tree : PProgram) (result : Result Code AllocError) → IsSource tree → IfOk result (λ code. ProgramAt code tree) → IfOk result (HasFormats tree) → IfOk result (IsShortSegment tree) → IfOk result IsListable →
    IfOk result StacksStayOwn
code_stacks tree (Ok code) source there formats short listable =
    let named = source_named tree source in
    nested_stacks_stay_own tree code (programs_lie_nested tree (source_accepted tree source) (source_in_order tree source) named) named
    (texts_of_accepted_fit tree (source_accepted tree source) (source_in_order tree source)) there formats short listable
code_stacks tree (Err e) source there formats short listable = there
