-- The lines of formats, as far as they are read.
use Rattle.std.proofs.Common.{◌≡◌, ℕ, ◌+◌, ◌-◌, ◌<◌, ◌≤◌, List, [], ◌∷◌, ◌++◌, length, drop, map, refl, sym, ap, subst, arith, ◌∙◌, append_assoc, length-append}
use Rattle.std.specs.List.{All, enumerate_from}
use Rattle.std.proofs.lemmas.List.{append-nil, drop_all}
use Rattle.std.proofs.lemmas.List.Elements.{All-nil, All-push}
use Rattle.b67_text.specs.Texts.{PartStands}
use Rattle.b67_segment.specs.declared.code.Format.{Format}
use Rattle.b67_listing.specs.Formats.{format_line, format_lines}
use Rattle.b67_listing_reader.specs.Reading.{IsFormat, IsNoFormat, ReadsFormats, StopsInFormats}

-- formats and one more after them
lines_push : (number : ℕ) (formats : List Format) (last : Format) →
    map format_line (enumerate_from number (formats ++ last ∷ [])) ≡ map format_line (enumerate_from number formats) ++ format_line (number + length formats, last) ∷ []
lines_push number [] last =
    let same : number ≡ number + 0 = omega arith in
    ap (λ k. format_line (k, last) ∷ []) same
lines_push number (f ∷ fs) last =
    let same : number + 1 + length fs ≡ number + length (f ∷ fs) = omega arith in
    ap (λ ls. format_line (number, f) ∷ ls) (lines_push (number + 1) fs last ∙ ap (λ k. map format_line (enumerate_from (number + 1) fs) ++ format_line (k, last) ∷ []) same)

-- one more line of what stands there
one_more : (part lines : List (List ℕ)) (at next : ℕ) (line : List ℕ) → PartStands part lines at next → next < length lines → drop next lines ≡ line ∷ drop (next + 1) lines →
    PartStands (part ++ line ∷ []) lines at (next + 1)
one_more part lines at next line s inside here = record {
  within = omega arith;
  next_is = omega (arith, s.next_is, length-append part (line ∷ []));
  part_is = s.part_is ∙ ap (λ t. part ++ t) here ∙ sym (append_assoc part (line ∷ []) (drop (next + 1) lines));
}

-- these formats are read
pub record FormatsSoFar (lines : List (List ℕ)) (at next : ℕ) (formats : List Format) : Type 0 where
  pub each : All IsFormat formats
  pub stands : PartStands (format_lines formats) lines at next

pub formats_none : (lines : List (List ℕ)) (at : ℕ) (formats : List Format) → at ≤ length lines → formats ≡ [] → FormatsSoFar lines at at formats
formats_none lines at formats inside is = subst (λ fs. FormatsSoFar lines at at fs) (sym is) record {
  each = All-nil IsFormat;
  stands = record { within = inside; next_is = omega arith; part_is = refl };
}

-- and they are all
pub formats_end : (lines : List (List ℕ)) (at next : ℕ) (formats : List Format) → FormatsSoFar lines at next formats → length lines ≤ next → ReadsFormats lines at formats
formats_end lines at next formats s past = record {
  are = s.each;
  listed = s.stands.part_is ∙ ap (λ t. format_lines formats ++ t) (drop_all next lines past) ∙ append-nil (format_lines formats);
}

-- one more of them
pub formats_more : (lines : List (List ℕ)) (at next number : ℕ) (formats : List Format) (line : List ℕ) (format : Format) → FormatsSoFar lines at next formats → number ≡ length formats →
    next < length lines → drop next lines ≡ line ∷ drop (next + 1) lines → IsFormat format × (line ≡ format_line (number, format)) → FormatsSoFar lines at (next + 1) (formats ++ format ∷ [])
formats_more lines at next number formats line format s same inside here is =
    let place : number ≡ 0 + length formats = omega (arith, same) in
    let line_is : line ≡ format_line (0 + length formats, format) = is.1 ∙ ap (λ k. format_line (k, format)) place in
    record {
      each = All-push IsFormat formats format s.each is.0;
      stands = subst (λ ls. PartStands ls lines at (next + 1)) (ap (λ l. format_lines formats ++ l ∷ []) line_is ∙ sym (lines_push 0 formats format))
          (one_more (format_lines formats) lines at next line s.stands inside here);
    }

-- a line that is none of a further one
pub formats_stop : (lines : List (List ℕ)) (at next number : ℕ) (formats : List Format) (line : List ℕ) → FormatsSoFar lines at next formats → number ≡ length formats →
    drop next lines ≡ line ∷ drop (next + 1) lines → IsNoFormat line number → (1 ≤ next + 1) × StopsInFormats lines at (next + 1 - 1)
formats_stop lines at next number formats line s same here never =
    let back : next ≡ next + 1 - 1 = omega arith in (
      (omega arith),
      subst (λ k. StopsInFormats lines at k) back record {
        formats = formats;
        are = s.each;
        stands = s.stands;
        line = line;
        rest = drop (next + 1) lines;
        line_is = here;
        stops = subst (IsNoFormat line) same never;
      },
    )
