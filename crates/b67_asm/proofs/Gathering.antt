-- The labels of a segment, gathered line by line.
use Rattle.std.proofs.Common.{◌≡◌, ℕ, ◌+◌, ◌*◌, ◌≤◌, ◌<◌, Bool, true, false, List, [], ◌∷◌, length, get_or, drop, Option, Some, None, refl, sym, ap, ◌∙◌, subst, arith}
use Rattle.std.specs.Prelude.{if◌then◌else◌}
use Rattle.std.specs.Option.{option_or}
use Rattle.std.specs.Borrow.{Bor}
use Rattle.std.specs.Ordering.{nat_cmp}
use Rattle.std.specs.Cmp.Lexicographic.{slice_cmp}
use Rattle.std.specs.Str.{bytes_eq}
use Rattle.std.specs.Map.{lookup}
use Rattle.std.specs.BTreeMap.{IsEmpty, is_at}
use Rattle.b67_asm_text.specs.declared.item.Written.{Written}
use Rattle.b67_asm_text.specs.declared.item.Reading.{Reading}
use Rattle.b67_asm_text.specs.declared.item.Reading.TheVariants.{Blank, NoItem, Segment, Level, Label, Operator, Format}
use Rattle.b67_asm.specs.declared.label.Standing.{Standing}
use Rattle.b67_asm.specs.Labels.{found_in, labels_from, label_named, place_after}
use Rattle.b67_asm.specs.Rules.{is_segment}
use Rattle.b67_asm.specs.Steps.{LabelAdds, AtSegment, Gathers, LabelTable}
use Rattle.b67_asm.proofs.Tables.{or_none}
use Rattle.b67_asm.proofs.Lines.{line_at, is_segment_true}

-- ---- one line

or_chain : (o : Option Standing) (b : Bool) (s : Standing) (q : Option Standing) → option_or (option_or o (if b then Some s else None)) q ≡ option_or o (if b then Some s else q)
or_chain None true s q = refl
or_chain None false s q = refl
or_chain (Some x) b s q = refl

-- a line that is no label, no operator and no SEGMENT
passes : (reading : Reading) → ((name : List ℕ) → reading ≡ Label name → ⊥) → ((written : Written) → reading ≡ Operator written → ⊥) → is_segment reading ≡ false →
    (rest : List Reading) (line at : ℕ) → labels_from line at (reading ∷ rest) ≡ labels_from (line + 1) at rest
passes Blank no_label no_operator plain rest line at = refl
passes NoItem no_label no_operator plain rest line at = refl
passes Segment no_label no_operator plain rest line at = absurd cc
passes (Level level) no_label no_operator plain rest line at = refl
passes (Label name) no_label no_operator plain rest line at = absurd (no_label name refl)
passes (Operator written) no_label no_operator plain rest line at = absurd (no_operator written refl)
passes (Format fits) no_label no_operator plain rest line at = refl

module _ (old : LabelTable) (line at : ℕ) (reading : Reading) where
  pub gathers_label : (new : LabelTable) (name bytes : List ℕ) → reading ≡ Label name → bytes ≡ name → LabelAdds old new bytes (record { line = line; place = at }) → Gathers old new line at reading at
  gathers_label new name bytes is same adds rest other =
      let standing : Standing = record { line = line; place = at } in
      let later = label_named (labels_from (line + 1) at rest) other in
      ap (λ (o : Option Standing). option_or o later) (adds other)
      ∙ or_chain (found_in old other) (bytes_eq bytes other) standing later
      ∙ ap (λ (n : List ℕ). option_or (found_in old other) (if bytes_eq n other then Some standing else later)) same
      ∙ ap (λ (r : Reading). option_or (found_in old other) (label_named (labels_from line at (r ∷ rest)) other)) (sym is)

  pub gathers_operator : (written : Written) (next : ℕ) → reading ≡ Operator written → next ≡ place_after at written → Gathers old old line at reading next
  gathers_operator written next is ends rest other =
      ap (λ (k : ℕ). option_or (found_in old other) (label_named (labels_from (line + 1) k rest) other)) ends
      ∙ ap (λ (r : Reading). option_or (found_in old other) (label_named (labels_from line at (r ∷ rest)) other)) (sym is)

  pub gathers_nothing : ((name : List ℕ) → reading ≡ Label name → ⊥) → ((written : Written) → reading ≡ Operator written → ⊥) → is_segment reading ≡ false → Gathers old old line at reading at
  gathers_nothing no_label no_operator plain rest other =
      ap (λ (ls : List (List ℕ × Standing)). option_or (found_in old other) (label_named ls other)) (sym (passes reading no_label no_operator plain rest line at))

-- ---- line by line

-- a table has the labels of some first lines
pub record Gathered (lines : List Reading) (from : ℕ) (table : LabelTable) (at next : ℕ) : Type 0 where
  pub later : from ≤ next
  pub within : next ≤ length lines
  pub most : at ≤ 12 * next
  pub labels : (name : List ℕ) → option_or (found_in table name) (label_named (labels_from (next + 1) at (drop next lines)) name) ≡ label_named (labels_from (from + 1) 0 (drop from lines)) name

empty_found : (table : LabelTable) → IsEmpty table → (name : List ℕ) → found_in table name ≡ None
empty_found table empty name =
    subst (λ (es : List (Bor (List ℕ) × Standing)). lookup (is_at (λ (k : Bor (List ℕ)). slice_cmp nat_cmp name k.now)) es ≡ None) (sym empty) refl

none_left : (line at : ℕ) (rest : List Reading) → AtSegment rest → labels_from line at rest ≡ []
none_left line at [] stops = refl
none_left line at (reading ∷ rest) stops = subst (λ (r : Reading). labels_from line at (r ∷ rest) ≡ []) (sym (is_segment_true reading stops)) refl

pub gathered_none : (lines : List Reading) (from : ℕ) (table : LabelTable) → from ≤ length lines → IsEmpty table → Gathered lines from table 0 from
gathered_none lines from table within empty = record {
  later = omega arith;
  within = within;
  most = omega arith;
  labels = λ name. ap (λ (o : Option Standing). option_or o (label_named (labels_from (from + 1) 0 (drop from lines)) name)) (empty_found table empty name);
}

module _ (lines : List Reading) (from : ℕ) (old : LabelTable) (at next : ℕ) (gathered : Gathered lines from old at next) where
  pub gathered_more : (new : LabelTable) (after : ℕ) (reading : Reading) → next < length lines → reading ≡ get_or lines next reading → Gathers old new (next + 1) at reading after → after ≤ at + 12 →
      Gathered lines from new after (next + 1)
  gathered_more new after reading inside is gathers most = record {
    later = omega (arith, gathered.later);
    within = omega (arith, inside);
    most = omega (arith, most, gathered.most);
    labels =
        λ name.
        gathers (drop (next + 1) lines) name
        ∙ ap (λ (ls : List Reading). option_or (found_in old name) (label_named (labels_from (next + 1) at ls) name)) (sym (line_at lines next reading inside is))
        ∙ gathered.labels name;
  }

  pub gathered_all : AtSegment (drop next lines) → (name : List ℕ) → found_in old name ≡ label_named (labels_from (from + 1) 0 (drop from lines)) name
  gathered_all stops name =
      or_none (found_in old name)
      ∙ ap (λ (ls : List (List ℕ × Standing)). option_or (found_in old name) (label_named ls name)) (sym (none_left (next + 1) at (drop next lines) stops))
      ∙ gathered.labels name
