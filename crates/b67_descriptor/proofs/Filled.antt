-- A mother's row, while its rows are opened one after another.
use Rattle.std.proofs.Common.{◌≡◌, refl, sym, ap, subst, ◌∙◌, ℕ, suc, ◌+◌, ◌-◌, ◌<◌, ◌≤◌, length, true, false, arith}
use Rattle.std.specs.Prelude.{is_some, pos}
use Rattle.std.proofs.lemmas.List.{length-replicate}
use Rattle.b67_word.specs.Word.{operand}
use Rattle.b67_control.specs.Control.{Fits_descriptor}
use Rattle.b67_control.proofs.ControlLaws.{as_descriptor_descriptor_word}
use Rattle.b67_store.specs.Store.{Rows, row_at, row_words, row_words_or, opened_at, least_free, zero_row, row_limit, count_limit}
use Rattle.b67_store.proofs.StoreLaws.{opened_here}
use Rattle.b67_table.specs.Image.{with_rows}
use Rattle.b67_table.specs.Program.{changed}
use Rattle.b67_table.specs.Arrays.{rows_made, array_word}
use Rattle.b67_descriptor.specs.Arrays.{array_descriptor, HasMore, AreOpen, MakesRows, row_added}
use Rattle.b67_descriptor.proofs.Rows.{has_mother, has_one_more, open_one_more, same_length, still_there}

pub record Filled (before first rows : Rows) (mother m n at : ℕ) : Type 0 where
  pub more : HasMore before rows mother 0 at
  pub opens : AreOpen rows mother at
  pub size : length (row_words rows mother) ≡ m
  pub there : is_some (row_at rows mother) ≡ true
  pub makes : MakesRows m mother n first rows at

pub filled_first : (before rows : Rows) (mother m n : ℕ) → mother ≡ least_free before → rows ≡ opened_at before mother (zero_row m false) → Filled before rows rows mother m n 0
filled_first before rows mother m n e f =
    subst (λ (r : Rows). Filled before r r mother m n 0) (sym f) (record {
      more = has_mother before mother (zero_row m false) e;
      opens = λ at x h i. absurd (omega (arith, h));
      size = ap (λ o. length (row_words_or o)) (opened_here before mother (zero_row m false)) ∙ length-replicate m (operand (pos 0));
      there = ap is_some (opened_here before mother (zero_row m false));
      makes = λ p img next. ap (λ (k : ℕ). changed p (rows_made k mother 0 n next) (with_rows img (opened_at before mother (zero_row m false)))) less_none;
    })
  where
    less_none : m ≡ m - 0
    less_none = omega arith

fits : (m address : ℕ) → m ≤ count_limit → address < row_limit → Fits_descriptor (array_descriptor false m address)
fits m address h k = (omega (arith, h), (omega (arith, k), tt))

makes_more : (first rows : Rows) (mother m n at : ℕ) → at < m → MakesRows m mother n first rows at → MakesRows m mother n first (row_added rows mother at n) (at + 1)
makes_more first rows mother m n at h makes p img next =
    makes p img next ∙ ap (λ (k : ℕ). changed p (rows_made k mother at n next) (with_rows img rows)) left
  where
    left : m - at ≡ suc (m - (at + 1))
    left = omega (arith, h)

pub filled_more : (before first rows new : Rows) (mother m n at : ℕ) → Filled before first rows mother m n at → at < m → n ≤ count_limit → least_free rows < row_limit
    → new ≡ row_added rows mother at n → Filled before first new mother m n (at + 1)
filled_more before first rows new mother m n at f h k low e =
    let within : at < length (row_words rows mother) = omega (arith, h, f.size) in
    let d = array_descriptor false n (least_free rows) in
    let reads = as_descriptor_descriptor_word d (fits n (least_free rows) k low) in
    let w = array_word false n (least_free rows) in
    subst (λ (r : Rows). Filled before first r mother m n (at + 1)) (sym e) (record {
      more = has_one_more before rows mother at (zero_row n true) w d f.there within reads refl f.more f.opens;
      opens = open_one_more before rows mother at (zero_row n true) w d f.there within reads refl f.more f.opens;
      size = same_length before rows mother at (zero_row n true) w d f.there within reads refl ∙ f.size;
      there = still_there before rows mother at (zero_row n true) w d f.there within reads refl;
      makes = makes_more first rows mother m n at h f.makes;
    })
