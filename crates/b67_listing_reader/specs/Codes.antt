-- Codes that are read back from their listings, and where lines stop to be a listing.
use Rattle.std.specs.Prelude.{ℕ, ◌-◌, ◌≤◌, List}
use Rattle.b67_text.specs.Texts.{IsRefused}
use Rattle.b67_segment.specs.declared.code.Code.{Code}
use Rattle.b67_listing.specs.Listings.{IsListable, ListingText}
use Rattle.b67_listing_reader.specs.declared.refusal.ReadListing.{ReadListing}
use Rattle.b67_listing_reader.specs.declared.refusal.ReadListing.TheVariants.{BadListing, NoMemory}

-- the lines are the listing of a code
pub record IsListing (lines : List (List ℕ)) : Type 0 where
  pub code : Code
  pub listable : IsListable code
  pub listed : ListingText code lines

-- a refusal of lines as a listing: at the first line, counted from 1, through which no listing has them, or for want of memory
abbrev pub ListingRefuses : ReadListing → List (List ℕ) → Type 0
ListingRefuses (BadListing line) lines = (1 ≤ line) × IsRefused IsListing lines (line - 1)
ListingRefuses NoMemory lines = Unit {0}
