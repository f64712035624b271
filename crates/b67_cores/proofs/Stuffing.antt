-- STFF: the reference to a cell becomes one that is read alike everywhere, and its word is known.
use Rattle.std.proofs.Common.{◌≡◌, refl, ap, ◌∙◌, subst, ℕ, ◌+◌, ◌-◌, ◌≤◌, List, [], ◌∷◌, length, Option, Some, None, inl, arith}
use Rattle.std.specs.Prelude.{IsSome}
use Rattle.algol_tree.specs.Scopes.{Scopes}
use Rattle.b67_word.specs.declared.Place.{Place}
use Rattle.b67_control.specs.declared.Irw.{Irw}
use Rattle.b67_control.specs.Control.{Fits_irw, as_irw}
use Rattle.b67_control.specs.Display.{place_at}
use Rattle.b67_control.proofs.ControlLaws.{as_irw_irw_word}
use Rattle.b67_ops.specs.declared.Couple.{Couple}
use Rattle.b67_ops.specs.declared.TheConstants.{OUTER_LEVEL}
use Rattle.b67_ops.specs.declared.Operator.TheVariants as ops
use Rattle.b67_ops.specs.declared.PlainKind.TheVariants as kinds
use Rattle.b67_segment.specs.Operators.{Placed, IsFit, AreFit}
use Rattle.b67_segment.specs.declared.code.Code.{Code}
use Rattle.b67_segment.proofs.Aiming.{AreFit_parts}
use Rattle.b67_table.specs.declared.Private.{Private}
use Rattle.b67_table.specs.Effect.{Effect, gives, ◌>>=◌}
use Rattle.b67_table.specs.Private.{frame}
use Rattle.b67_table.specs.PrivateRows.{pointed, onward, stuff}
use Rattle.b67_table.specs.References.{cell_word}
use Rattle.b67_table.specs.Rows.{row}
use Rattle.b67_table.proofs.Wordly.{few_index_bits}
use Rattle.b67_templates.specs.Contexts.{Context}
use Rattle.b67_templates.specs.Fragments.{Has}
use Rattle.b67_standing.specs.Stepping.{HeldWord, Stuffable, of_array, of_variable, of_event, of_actual, Slot, reference, descriptor}
use Rattle.b67_cores.specs.Cores.{Core}
use Rattle.b67_cores.specs.Slots.{Known}
use Rattle.b67_cores.specs.Stretches.{Sees}
use Rattle.b67_cores.proofs.PartRows.{stuffed_is}
use Rattle.b67_cores.proofs.Moving.{place_grows, Standing, registers_at, Are, single}
use Rattle.b67_cores.proofs.Knowing.{slots_among, Gains}

-- the level of such a cell's couple is that of a block around the text
record IsAround (context : Context) (c : Couple) : Type 0 where
  pub outer : OUTER_LEVEL ≤ c.level
  pub inner : c.level ≤ context.level

is_around : {sc : Scopes} {context : Context} {held : HeldWord} {c : Couple} → Stuffable sc context held c → IsAround context c
is_around (of_array n d c is) = record { outer = is.made.outer; inner = omega (arith, is.made.level_is) }
is_around (of_variable n k c is outer) = record { outer = outer; inner = omega (arith, is.level_is) }
is_around (of_event n c is) = record { outer = is.made.outer; inner = omega (arith, is.made.level_is) }
is_around (of_actual e k c is) = record { outer = is.outer; inner = omega (arith, is.level_is) }

module _ (code : Code) (ps : List Placed) (level most bound : ℕ) (core : Core) (st : Standing code ps level most bound core) where
  abbrev irw_of : Couple → Irw
  irw_of c = record { level = c.level; index = c.index }

  -- the fields of a reference hold each couple that NAMC names
  couple_fits : (c : Couple) (from next : ℕ) → Has ps level from (ops.Namc c) next → Fits_irw (irw_of c)
  couple_fits c from next named =
      let fit : IsFit (record { level = level; operator = ops.Namc c }) =
      (AreFit_parts named.before (record { level = level; operator = ops.Namc c }) named.after (subst AreFit named.parts st.spells.fit)).1 in
      (omega (arith, fit.known, fit.fits.level_seen), (omega (arith, fit.fits.index_fits, few_index_bits level), tt))

  module _ (sc : Scopes) (known : List Known) (context : Context) (held : HeldWord) (c : Couple) (is : Stuffable sc context held c) (before from next : ℕ)
      (named : Has ps level before (ops.Namc c) from) (stands : Has ps level from (ops.Plain kinds.Stff) next) (x : List Slot) where
    stuffed_to : (home : Place) → place_at core.registers.display c.level ≡ Some home → Gains sc context code ps level most bound core known from (reference c ∷ x) next (descriptor held ∷ x)
    unfolding row
    stuffed_to home shown [] are room = absurd are
    stuffed_to home shown (w ∷ rest) are room =
        let made : Known = record { held = held; word = cell_word (record { frame = home; index = c.index }) } in
        let below : Are sc (made ∷ known) code ps level most bound core (reference c ∷ x) (w ∷ rest) =
        slots_among sc known (made ∷ []) level (frame core.registers) (length core.below) (reference c ∷ x) (w ∷ rest) are in
        record {
          added = made ∷ [];
          added_are = (record { held = held; couple = c; frame = home; held_is = refl; stuffable = is; shown = shown; word_is = refl }, tt);
          reaches =
              single sc (made ∷ known) code ps level most bound core st from next next (ops.Plain kinds.Stff) (reference c ∷ x) (descriptor held ∷ x) (w ∷ rest)
              (made.word ∷ rest) (length core.below + length (w ∷ rest) - 1 + 1) (onward stuff) stands refl (place_grows stands) below room
              (inl (refl, refl), below.1) (omega (arith, room)) (omega arith)
              (ap (λ (e : Effect Private). e >>= (λ (q : Private). gives (pointed next q)))
              (stuffed_is (registers_at core from (reference c ∷ x)) (length core.below + length (w ∷ rest)) w (irw_of c) home rest
              (ap as_irw are.0 ∙ as_irw_irw_word (irw_of c) (couple_fits c before from named)) shown (omega (arith, st.bottom))));
        }

    shown_somewhere : (o : Option Place) → place_at core.registers.display c.level ≡ o → IsSome o → Gains sc context code ps level most bound core known from (reference c ∷ x) next (descriptor held ∷ x)
    shown_somewhere None e some = cc
    shown_somewhere (Some home) e some = stuffed_to home e

    pub stuffing : Sees context.level core → Gains sc context code ps level most bound core known from (reference c ∷ x) next (descriptor held ∷ x)
    stuffing sees = shown_somewhere (place_at core.registers.display c.level) refl (sees c.level (is_around is).outer (is_around is).inner)
