-- What is kept beside the spans, so that not all are walked to find a place.
use Rattle.std.specs.Prelude.{ℕ, ◌/◌, ◌≤◌, List, slice_index_or}
use Rattle.b67_flat.specs.declared.Span.{Span}
use Rattle.b67_flat.specs.declared.spans.TheConstants.{CHUNK}
use Rattle.b67_flat.specs.declared.widest.TheConstants.{GROUP}
use Rattle.b67_flat.specs.Spans.{gap_before}

-- no gap before a span is wider than what is kept for its chunk
abbrev pub AreWidest : List Span → List ℕ → Type 0
AreWidest spans widest = (k : ℕ) → gap_before 0 spans k ≤ slice_index_or widest (k / CHUNK) 0

-- nor is what is kept for a chunk wider than what is kept for its group
abbrev pub AreOver : List ℕ → List ℕ → Type 0
AreOver chunks groups = (k : ℕ) → slice_index_or chunks k 0 ≤ slice_index_or groups (k / GROUP) 0

-- nor is any wider than this
abbrev pub AreWithin : List ℕ → ℕ → Type 0
AreWithin chunks most = (k : ℕ) → slice_index_or chunks k 0 ≤ most
