-- An operator that touches no word of another process's private part does the same whatever stands there.
use Rattle.std.proofs.Common.{◌≡◌, ◌≢◌, refl, sym, ap, subst, ◌∙◌, ℕ, zero, suc, ◌+◌, ◌<◌, ◌≤◌, max, List, [], ◌∷◌, ◌++◌, length, take, reverse, set, Some, None, inl, inr, arith}
use Rattle.std.proofs.Math.Decide.{ℕ_discrete, dec_le}
use Rattle.std.proofs.Math.Nat.{lt_of_not-le, le-max_left, le-max_right}
use Rattle.std.proofs.lemmas.List.{length-set, length-append}
use Rattle.b67_list.specs.Numbered.{set_numbered}
use Rattle.b67_word.specs.declared.Place.{Place}
use Rattle.b67_word.specs.Word.{Word}
use Rattle.b67_control.specs.declared.Registers.{Registers}
use Rattle.b67_store.specs.Store.{Stacks, stack_at, words_of, with_word, opened_at}
use Rattle.b67_store.proofs.StoreLaws.{changed_others, opened_others}
use Rattle.b67_table.specs.Effect.{Effect, gives, faults, interrupts}
use Rattle.b67_table.specs.declared.Private.{Private}
use Rattle.b67_table.specs.Image.{Image, with_private, critical_in, critical_of}
use Rattle.b67_table.specs.Questions.{Question, AnswerTo, told}
use Rattle.b67_table.specs.Questions as questions
use Rattle.b67_table.specs.Writes.{Write, write_made}
use Rattle.b67_table.specs.Writes as writes
use Rattle.b67_table.specs.Program.{Test, answer, interrupt, fault, ask, asked, Change, done, look_up, write, Program, changed, effect_of, does}
use Rattle.b67_table.specs.Touches.{QuestionReads, Changes, TestReads, ChangeTouches, EffectTouches}
use Rattle.b67_table.specs.Parts.{Beneath, IsApart, put_into, OthersStayApart}
use Rattle.b67_table.proofs.Stacks.{set_here, numbered_other, numbered_append, get_numbered_other, get_numbered_append}
use Rattle.b67_table.proofs.Over.{criticals_same, critical_same, over, high_words, word_same, words_same, elsewhere, opened_elsewhere, saved}

-- ---- questions

lower : (base at : ℕ) → Dec (base ≤ at) → (base ≤ at → ⊥) → at < base
lower base at (yes h) no_way = absurd (no_way h)
lower base at (no h) no_way = lt_of_not-le h

-- words from a place on of which none is at the base or above
lower_all : (base at count : ℕ) → Dec (at + count ≤ base) → ((x : ℕ) → at ≤ x → x < at + count → base ≤ x → ⊥) → 0 < count → at + count ≤ base
lower_all base at count (yes h) no_way some = h
lower_all base at count (no h) no_way some =
    absurd (no_way (max at base) (le-max_left at base) (max_below at base (at + count) (omega (arith, some)) (lt_of_not-le h)) (le-max_right at base))
  where
    max_below : (a b c : ℕ) → a < c → b < c → max a b < c
    max_below a b c p q = omega (arith, p, q)

module _ (q base : ℕ) (part : Private) where
  -- the image with the part put into it
  put : Image → Image
  put img = with_private img q base part

  IsAbove : Place → Type 0
  IsAbove x = (x.stack ≡ part.regs.stack) × (base ≤ x.at)

  place_in : ℕ → ℕ → Place
  place_in stack at = record { stack = stack; at = at }

  word_told : (img : Image) → Beneath img q base part → (x : Place) → (IsAbove x → ⊥) → told (put img) (questions.word x) ≡ told img (questions.word x)
  unfolding put IsAbove over
  word_told img b x apart =
      word_same part.regs.stack base (reverse part.words) img.stacks b.words x.stack x.at b.opened b.high (ℕ_discrete x.stack part.regs.stack)
      (λ e. lower base x.at (dec_le base x.at) (λ h. apart (e, h)))

  words_told : (img : Image) → Beneath img q base part → (x : Place) (count : ℕ)
      → ((y : Place) → (y.stack ≡ x.stack) × (x.at ≤ y.at) × (y.at < x.at + count) → IsAbove y → ⊥)
      → told (put img) (questions.words x count) ≡ told img (questions.words x count)
  unfolding put IsAbove over place_in
  words_told img b x zero apart = refl
  words_told img b x (suc k) apart =
      words_same part.regs.stack base (reverse part.words) img.stacks b.words x.stack x.at (suc k) b.opened b.high (ℕ_discrete x.stack part.regs.stack)
      (λ e. lower_all base x.at (suc k) (dec_le (x.at + suc k) base) (λ at p q h. apart (place_in x.stack at) (refl, p, q) (e, h)) (omega arith))

  told_same : (img : Image) → Beneath img q base part → (c : Question) → ((x : Place) → QuestionReads c x → IsAbove x → ⊥) → told (put img) c ≡ told img c
  unfolding put
  told_same img b (questions.word x) apart = word_told img b x (apart x refl)
  told_same img b (questions.words x count) apart = words_told img b x count apart
  told_same img b (questions.row n) apart = refl
  told_same img b questions.free_row apart = refl
  told_same img b questions.counted apart = refl
  told_same img b (questions.is_event place) apart = refl
  told_same img b (questions.event_answer t place) apart = refl
  told_same img b (questions.first_happened places) apart = refl
  told_same img b (questions.woken k) apart = refl
  told_same img b questions.criticals apart = criticals_same img.states img.regs q part.regs b.within b.critical
  told_same img b (questions.critical n) apart = critical_same img.regs q n part.regs (ℕ_discrete n q) b.within b.critical
  told_same img b questions.started apart = refl

  asked_same : {A : Type 0} (img : Image) → Beneath img q base part → (t : Test A) → ((x : Place) → TestReads img t x → IsAbove x → ⊥)
      → asked (put img) t ≡ asked img t
  asked_same img b (answer a) apart = refl
  asked_same img b (interrupt kind) apart = refl
  asked_same img b (fault kind) apart = refl
  asked_same img b (ask c more) apart =
      ap (λ (a : AnswerTo c). asked (put img) (more a)) (told_same img b c (λ x r. apart x (inl r)))
      ∙ asked_same img b (more (told img c)) (λ x r. apart x (inr r))

  -- ---- writes

  -- a stack whose words from a place on are touched is not the part's
  not_from : (stack at : ℕ) → ((x : Place) → (x.stack ≡ stack) × (at ≤ x.at) → IsAbove x → ⊥) → stack ≢ part.regs.stack
  unfolding IsAbove place_in
  not_from stack at apart e = apart (place_in stack (max at base)) (refl, le-max_left at base) (e, le-max_right at base)

  not_all : (stack : ℕ) → ((x : Place) → x.stack ≡ stack → IsAbove x → ⊥) → stack ≢ part.regs.stack
  unfolding IsAbove place_in
  not_all stack apart e = apart (place_in stack base) refl (e, omega arith)

  not_top : (img : Image) → Beneath img q base part → (stack : ℕ)
      → ((x : Place) → x ≡ record { stack = stack; at = length (words_of img.stacks stack) } → IsAbove x → ⊥) → stack ≢ part.regs.stack
  unfolding IsAbove place_in
  not_top img b stack apart e =
      apart (place_in stack (length (words_of img.stacks stack))) refl
      (e, subst (λ (n : ℕ). base ≤ length (words_of img.stacks n)) (sym e) (high_words part.regs.stack base (reverse part.words) img.stacks b.words b.opened b.high))

  -- the image with other stacks, or other registers
  stacks_of : Image → Stacks → Image
  stacks_of img st = record img { stacks = st; regs = set_numbered img.regs q part.regs }

  written_same : (p : ℕ) → p ≢ q → (img : Image) → Beneath img q base part → (w : Write) → ((x : Place) → Changes w img x → IsAbove x → ⊥)
      → write_made p w (put img) ≡ put (write_made p w img)
  unfolding put IsAbove over stacks_of
  written_same p h img b (writes.save x w) apart =
      ap (λ (st : Stacks). stacks_of img st)
      (saved part.regs.stack base (reverse part.words) img.stacks b.words x w b.opened b.high (ℕ_discrete x.stack part.regs.stack)
      (λ e. lower base x.at (dec_le base x.at) (λ i. apart x refl (e, i))))
  written_same p h img b (writes.cut stack n) apart =
      ap (λ (st : Stacks). stacks_of img st)
      (elsewhere part.regs.stack base (reverse part.words) img.stacks stack (λ (us : List Word). Some (take n us)) (not_from stack n apart))
  written_same p h img b (writes.push stack w) apart =
      ap (λ (st : Stacks). stacks_of img st)
      (elsewhere part.regs.stack base (reverse part.words) img.stacks stack (λ (us : List Word). Some (us ++ w ∷ [])) (not_top img b stack apart))
  written_same p h img b (writes.registers r) apart =
      ap (λ (rs : List Registers). record img { stacks = over part.regs.stack base (reverse part.words) img.stacks; regs = rs })
      (numbered_other img.regs p q part.regs r h)
  written_same p h img b (writes.open_row n count counted) apart = refl
  written_same p h img b (writes.write_row n at w) apart = refl
  written_same p h img b (writes.close_row n) apart = refl
  written_same p h img b (writes.open_event place) apart = refl
  written_same p h img b (writes.close_events stack at) apart = refl
  written_same p h img b (writes.event_deed d place) apart = refl
  written_same p h img b (writes.wait_any places) apart = refl
  written_same p h img b writes.go_on apart = refl
  written_same p h img b (writes.line bytes) apart = refl
  written_same p h img b (writes.start r words) apart =
      ap (λ (st : Stacks). record (write_made p (writes.start r words) img) { stacks = st; regs = set_numbered img.regs q part.regs ++ r ∷ [] })
      (opened_elsewhere part.regs.stack base (reverse part.words) img.stacks b.words words r.stack b.opened (not_all r.stack apart))
      ∙ ap (λ (rs : List Registers). record (write_made p (writes.start r words) img) {
        stacks = over part.regs.stack base (reverse part.words) (opened_at img.stacks r.stack words);
        regs = rs;
      })
      (sym (numbered_append img.regs (r ∷ []) q part.regs b.within))
  written_same p h img b (writes.end_process stack) apart =
      ap (λ (st : Stacks). stacks_of (write_made p (writes.end_process stack) img) st)
      (elsewhere part.regs.stack base (reverse part.words) img.stacks stack (λ (us : List Word). None) (not_all stack apart))

  length_numbered : (rs : List Registers) (p : ℕ) (r : Registers) → length (set_numbered rs p r) ≡ length rs
  length_numbered rs zero r = refl
  length_numbered rs (suc k) r = length-set rs k r

  with_opened : (img new : Image) → Beneath img q base part → stack_at new.stacks part.regs.stack ≡ stack_at img.stacks part.regs.stack → new.regs ≡ img.regs
      → Beneath new q base part
  with_opened img new b e f = record {
    words = b.words;
    opened = e ∙ b.opened;
    high = b.high;
    within = subst (λ (rs : List Registers). q ≤ length rs) (sym f) b.within;
    critical = ap (λ (rs : List Registers). critical_of rs q) f ∙ b.critical;
  }

  saved_beneath : (img : Image) → Beneath img q base part → (x : Place) (w : Word) → Dec (x.stack ≡ part.regs.stack)
      → Beneath (record img { stacks = with_word img.stacks x w }) q base part
  saved_beneath img b x w (no h) =
      with_opened img _ b (changed_others img.stacks x.stack part.regs.stack (Some (set (words_of img.stacks x.stack) x.at w)) (λ e. h (sym e))) refl
  saved_beneath img b x w (yes e) = record {
    words = set (words_of img.stacks x.stack) x.at w;
    opened = subst (λ (n : ℕ). stack_at (with_word img.stacks x w) n ≡ Some (set (words_of img.stacks x.stack) x.at w)) e
        (set_here img.stacks x.stack b.words (set (words_of img.stacks x.stack) x.at w)
        (subst (λ (n : ℕ). stack_at img.stacks n ≡ Some b.words) (sym e) b.opened));
    high = subst (λ (n : ℕ). base ≤ n) (sym (length-set (words_of img.stacks x.stack) x.at w))
        (subst (λ (n : ℕ). base ≤ length (words_of img.stacks n)) (sym e)
        (high_words part.regs.stack base (reverse part.words) img.stacks b.words b.opened b.high));
    within = b.within;
    critical = b.critical;
  }

  beneath_after : (p : ℕ) → p ≢ q → (img : Image) → Beneath img q base part → (w : Write) → ((x : Place) → Changes w img x → IsAbove x → ⊥)
      → Beneath (write_made p w img) q base part
  beneath_after p h img b (writes.save x w) apart = saved_beneath img b x w (ℕ_discrete x.stack part.regs.stack)
  beneath_after p h img b (writes.cut stack n) apart =
      with_opened img _ b
      (changed_others img.stacks stack part.regs.stack (Some (take n (words_of img.stacks stack))) (λ e. not_from stack n apart (sym e))) refl
  beneath_after p h img b (writes.push stack w) apart =
      with_opened img _ b
      (changed_others img.stacks stack part.regs.stack (Some (words_of img.stacks stack ++ w ∷ [])) (λ e. not_top img b stack apart (sym e))) refl
  beneath_after p h img b (writes.registers r) apart = record {
    words = b.words;
    opened = b.opened;
    high = b.high;
    within = subst (λ (n : ℕ). q ≤ n) (sym (length_numbered img.regs p r)) b.within;
    critical = ap critical_in (get_numbered_other img.regs p q r (λ e. h (sym e))) ∙ b.critical;
  }
  beneath_after p h img b (writes.open_row n count counted) apart = with_opened img _ b refl refl
  beneath_after p h img b (writes.write_row n at w) apart = with_opened img _ b refl refl
  beneath_after p h img b (writes.close_row n) apart = with_opened img _ b refl refl
  beneath_after p h img b (writes.open_event place) apart = with_opened img _ b refl refl
  beneath_after p h img b (writes.close_events stack at) apart = with_opened img _ b refl refl
  beneath_after p h img b (writes.event_deed d place) apart = with_opened img _ b refl refl
  beneath_after p h img b (writes.wait_any places) apart = with_opened img _ b refl refl
  beneath_after p h img b writes.go_on apart = with_opened img _ b refl refl
  beneath_after p h img b (writes.line bytes) apart = with_opened img _ b refl refl
  beneath_after p h img b (writes.start r words) apart = record {
    words = b.words;
    opened = opened_others img.stacks r.stack part.regs.stack words (λ e. not_all r.stack apart (sym e)) ∙ b.opened;
    high = b.high;
    within = omega (arith, b.within, length-append img.regs (r ∷ []));
    critical = ap critical_in (get_numbered_append img.regs (r ∷ []) q b.within) ∙ b.critical;
  }
  beneath_after p h img b (writes.end_process stack) apart =
      with_opened img _ b (changed_others img.stacks stack part.regs.stack None (λ e. not_all stack apart (sym e))) refl

  -- ---- changes and programs

  changed_same : (p : ℕ) → p ≢ q → (c : Change) (img : Image) → Beneath img q base part → ((x : Place) → ChangeTouches p c img x → IsAbove x → ⊥)
      → changed p c (put img) ≡ put (changed p c img)
  changed_same p h done img b apart = refl
  changed_same p h (look_up c more) img b apart =
      ap (λ (a : AnswerTo c). changed p (more a) (put img)) (told_same img b c (λ x r. apart x (inl r)))
      ∙ changed_same p h (more (told img c)) img b (λ x r. apart x (inr r))
  changed_same p h (write w next) img b apart =
      ap (λ (i : Image). changed p next i) (written_same p h img b w (λ x r. apart x (inl r)))
      ∙ changed_same p h next (write_made p w img) (beneath_after p h img b w (λ x r. apart x (inl r))) (λ x r. apart x (inr r))

  effect_same : (p : ℕ) → p ≢ q → (e : Effect Change) (img : Image) → Beneath img q base part → ((x : Place) → EffectTouches p img e x → IsAbove x → ⊥)
      → effect_of p (put img) e ≡ put_into q base part (effect_of p img e)
  unfolding put
  effect_same p h (gives c) img b apart = ap gives (changed_same p h c img b apart)
  effect_same p h (faults kind) img b apart = refl
  effect_same p h (interrupts kind) img b apart = refl

-- what is beneath the part stays so
beneath_changed : (q base : ℕ) (part : Private) (p : ℕ) → p ≢ q → (c : Change) (img : Image) → Beneath img q base part
    → ((x : Place) → ChangeTouches p c img x → IsAbove q base part x → ⊥) → Beneath (changed p c img) q base part
beneath_changed q base part p h done img b apart = b
beneath_changed q base part p h (look_up c more) img b apart = beneath_changed q base part p h (more (told img c)) img b (λ x r. apart x (inr r))
beneath_changed q base part p h (write w next) img b apart =
    beneath_changed q base part p h next (write_made p w img) (beneath_after q base part p h img b w (λ x r. apart x (inl r))) (λ x r. apart x (inr r))

beneath_given : (q base : ℕ) (part : Private) (p : ℕ) → p ≢ q → (e : Effect Change) (img new : Image) → Beneath img q base part
    → ((x : Place) → EffectTouches p img e x → IsAbove q base part x → ⊥) → effect_of p img e ≡ gives new → Beneath new q base part
beneath_given q base part p h (gives c) img new b apart e =
    let same : changed p c img ≡ new = cc in
    subst (λ (i : Image). Beneath i q base part) same (beneath_changed q base part p h c img b apart)
beneath_given q base part p h (faults kind) img new b apart e = cc
beneath_given q base part p h (interrupts kind) img new b apart e = cc

pub program_beneath : (p q base : ℕ) (part : Private) (program : Program) (img new : Image) → p ≢ q → Beneath img q base part
    → IsApart p img program base part → does p program img ≡ gives new → Beneath new q base part
unfolding IsAbove
program_beneath p q base part program img new h b apart e =
    beneath_given q base part p h (asked img program) img new b (λ x r i. apart x (inr r) i.0 i.1) e

pub others_stay_apart : OthersStayApart
unfolding put IsAbove
others_stay_apart p q base part program img h b apart =
    ap (λ (e : Effect Change). effect_of p (with_private img q base part) e)
    (asked_same q base part img b program (λ x r i. apart x (inl r) i.0 i.1))
    ∙ effect_same q base part p h (asked img program) img b (λ x r i. apart x (inr r) i.0 i.1)
