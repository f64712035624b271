-- What the looks of an entry come to, one after another.
use Rattle.std.proofs.Common.{◌≡◌, refl, sym, ap, ◌∙◌, ℕ, ◌+◌, ◌<◌, ◌≤◌, Bool, true, false, List, Option, Some, None, Result, Ok, Err, cond, arith}
use Rattle.std.specs.Prelude.{nat_lt, nat_le}
use Rattle.std.proofs.lemmas.Bool.{lt-ltb}
use Rattle.b67_word.specs.declared.Place.{Place}
use Rattle.b67_word.specs.Word.{Word}
use Rattle.b67_control.specs.declared.Registers.{Registers}
use Rattle.b67_control.specs.declared.Pcw.{Pcw}
use Rattle.b67_control.specs.Control.{as_rcw}
use Rattle.b67_store.specs.Store.{Stacks, word_at}
use Rattle.b67_table.specs.declared.Entry.{Entry}
use Rattle.b67_table.specs.declared.InterruptKind.{InterruptKind}
use Rattle.b67_table.specs.declared.InterruptKind.TheVariants.{BadCode}
use Rattle.b67_table.specs.Limits.{end_of_code}
use Rattle.b67_table.specs.Look.{Look, found, stops, look_seen, ◌>->◌, read_as}
use Rattle.b67_table.specs.Chains.{place, linked}
use Rattle.b67_table.specs.References.{invalid}
use Rattle.b67_table.specs.Linkage.{entering, is_home, if_fits, if_home}
use Rattle.b67_display.proofs.Linking.{after, seen_then}

-- an entry whose place can be held, whose frame fits and whose home is one comes to its links
module _ (st : Stacks) (r : Registers) (fits : Bool) (mark : ℕ) (pcw : Pcw) (home : Place) where
  abbrev rest : Place → Look Entry
  rest h = linked (place r.stack mark) h pcw.level >-> (λ (display : List (Option Place)). found (record { home = h; display = display }))

  pub entering_is : nat_lt r.place end_of_code ≡ true → fits ≡ true
      → is_home (read_as as_rcw (word_at st (place home.stack (home.at + 1)))) pcw.level ≡ true
      → look_seen st (entering r r.place fits mark pcw (Some home))
      ≡ after (look_seen st (linked (place r.stack mark) home pcw.level)) (λ (display : List (Option Place)). Ok (record { home = home; display = display }))
  entering_is low fit homely =
      ap (λ (b : Bool). look_seen st (cond b (if_fits fits (if_home (Some home) pcw.level rest)) (stops BadCode))) low
      ∙ ap (λ (b : Bool). look_seen st (cond b (if_home (Some home) pcw.level rest) invalid)) fit
      ∙ ap (λ (b : Bool). look_seen st (cond b (rest home) invalid)) homely
      ∙ seen_then st (linked (place r.stack mark) home pcw.level) (λ (display : List (Option Place)). found (record { home = home; display = display }))

pub is_low : (place : ℕ) → place < end_of_code → nat_lt place end_of_code ≡ true
is_low place h = lt-ltb place end_of_code h
