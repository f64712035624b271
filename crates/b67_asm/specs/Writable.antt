-- The codes that texts of the assembler have.
use Rattle.std.specs.Prelude.{◌≡◌, ◌≤◌, true, length}
use Rattle.std.specs.List.{All}
use Rattle.b67_segment.specs.declared.code.Format.{Format}
use Rattle.b67_segment.specs.declared.code.Code.{Code}
use Rattle.b67_listing.specs.Listings.{IsListable}
use Rattle.b67_asm_text.specs.Phrases.{are_in_range}

-- a format has a phrase, and its phrases have widths above 0 and fit a line
pub record CanBeWritten (format : Format) : Type 0 where
  pub some : 1 ≤ length format.phrases
  pub fits : are_in_range format.phrases ≡ true

-- the code can be listed, it has a segment, and its formats can be written
pub record IsWritable (code : Code) : Type 0 where
  pub listable : IsListable code
  pub some : 1 ≤ length code.segments
  pub formats : All CanBeWritten code.formats
