-- A program that does not touch another process's part: either may come first.
use Rattle.std.proofs.Common.{◌≡◌, ◌≢◌, sym, ap, subst, ◌∙◌, ℕ, ◌≤◌, List, ◌++◌, length, take, drop, reverse, set, Some}
use Rattle.std.proofs.lemmas.List.{take-append-drop, reverse-reverse}
use Rattle.b67_list.specs.Numbered.{numbered, set_numbered}
use Rattle.b67_list.proofs.Numbered.{numbered_same}
use Rattle.b67_word.specs.Word.{Word}
use Rattle.b67_control.specs.declared.Registers.{Registers}
use Rattle.b67_store.specs.Store.{Stacks, stack_at, words_or, words_of}
use Rattle.b67_store.proofs.Cited.{put_there}
use Rattle.b67_table.specs.declared.Private.{Private}
use Rattle.b67_table.specs.Effect.{gives}
use Rattle.b67_table.specs.Private.{floor}
use Rattle.b67_table.specs.Image.{Image, with_private, private_of, critical_in}
use Rattle.b67_table.specs.Program.{Program, does}
use Rattle.b67_table.specs.Privacy.{RegistersStay, ProcessStands}
use Rattle.b67_table.specs.Parts.{Beneath, IsApart, put_into}
use Rattle.b67_table.proofs.Stacks.{set_here}
use Rattle.b67_table.proofs.Lists.{numbered_within, numbered_set, numbered_from, above_put}
use Rattle.b67_table.proofs.Parts.{others_stay_apart, program_beneath}

pub gives_is : (a b : Image) → gives a ≡ gives b → a ≡ b
gives_is a b e = cc

module _ (img : Image) (q : ℕ) (r : Registers) (st : ProcessStands img q r) where
  -- the part that is there, put in its own place
  unchanged : with_private img q (floor r) (private_of img r) ≡ img
  unchanged =
      let there : take (floor r) (words_of img.stacks r.stack) ++ reverse (reverse (drop (floor r) (words_of img.stacks r.stack))) ≡ st.words =
      ap (λ (z : List Word). take (floor r) (words_of img.stacks r.stack) ++ z) (reverse-reverse (drop (floor r) (words_of img.stacks r.stack)))
      ∙ take-append-drop (floor r) (words_of img.stacks r.stack) ∙ ap words_or st.opened in
      ap (λ (ws : List Word). record img { stacks = set img.stacks r.stack (Some ws); regs = set_numbered img.regs q r }) there
      ∙ ap (λ (s : Stacks). record img { stacks = s; regs = set_numbered img.regs q r }) (put_there img.stacks r.stack st.words st.opened)
      ∙ ap (λ (rs : List Registers). record img { regs = rs }) (numbered_same img.regs q r st.has)

  beneath_own : Beneath img q (floor r) (private_of img r)
  beneath_own = record {
    words = st.words;
    opened = st.opened;
    high = st.high;
    within = numbered_within img.regs q r st.has;
    critical = ap critical_in st.has;
  }

  pub beneath : (part : Private) → RegistersStay r part.regs → Beneath img q (floor r) part
  beneath part k = record {
    words = st.words;
    opened = ap (λ (n : ℕ). stack_at img.stacks n) k.0 ∙ st.opened;
    high = st.high;
    within = numbered_within img.regs q r st.has;
    critical = ap critical_in st.has ∙ sym k.5;
  }

-- p's program does the same beside another part of q, and q's own part is the same after it
pub record Beside (p q : ℕ) (r : Registers) (part : Private) (program : Program) (img new : Image) : Type 0 where
  pub action : does p program (with_private img q (floor r) part) ≡ gives (with_private new q (floor r) part)
  pub registers : numbered new.regs q ≡ Some r
  pub opened : stack_at new.stacks r.stack ≡ Some (words_of new.stacks r.stack)
  pub high : floor r ≤ length (words_of new.stacks r.stack)
  pub words : private_of new r ≡ private_of img r

pub program_beside : (p q : ℕ) (r : Registers) (part : Private) (program : Program) (img new : Image) → p ≢ q → ProcessStands img q r → RegistersStay r part.regs
    → IsApart p img program (floor r) part → does p program img ≡ gives new → Beside p q r part program img new
program_beside p q r part program img new h st k apart e =
    let base : ℕ = floor r in
    let own : Private = private_of img r in
    let apart_own : IsApart p img program (floor r) (private_of img r) = λ x t i l. apart x t (i ∙ sym k.0) l in
    let again : new ≡ with_private new q (floor r) (private_of img r) =
    gives_is new (with_private new q (floor r) (private_of img r))
    (sym e ∙ ap (λ (i : Image). does p program i) (sym (unchanged img q r st))
    ∙ others_stay_apart p q (floor r) (private_of img r) program img h (beneath_own img q r st) apart_own
    ∙ ap (put_into q (floor r) (private_of img r)) e) in
    let b : Beneath new q (floor r) (private_of img r) = program_beneath p q (floor r) (private_of img r) program img new h (beneath_own img q r st) apart_own e in
    let words_are : words_of new.stacks r.stack ≡ take (floor r) (words_of new.stacks r.stack) ++ reverse (reverse (drop (floor r) (words_of img.stacks r.stack))) =
    ap (λ (i : Image). words_of i.stacks r.stack) again ∙ ap words_or (set_here new.stacks r.stack b.words _ b.opened) in
    let high : floor r ≤ length (words_of new.stacks r.stack) = subst (λ (us : List Word). floor r ≤ length us) (sym (ap words_or b.opened)) b.high in
    record {
      action = others_stay_apart p q (floor r) part program img h (beneath img q r st part k) apart ∙ ap (put_into q (floor r) part) e;
      registers = ap (λ (i : Image). numbered i.regs q) again ∙ numbered_set new.regs q r (numbered_from img.regs q r st.has) b.within;
      opened = b.opened ∙ ap (λ (us : List Word). Some us) (sym (ap words_or b.opened));
      high = high;
      words = ap (λ (us : List Word). record { regs = r; words = reverse (drop (floor r) us) }) words_are
          ∙ ap (λ (us : List Word). record { regs = r; words = reverse us })
          (above_put (words_of new.stacks r.stack) (reverse (reverse (drop (floor r) (words_of img.stacks r.stack)))) (floor r) high
          ∙ reverse-reverse (drop (floor r) (words_of img.stacks r.stack)));
    }
