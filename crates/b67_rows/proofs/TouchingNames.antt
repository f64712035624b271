-- The cells that an operator names, by what it finds: none, one, or one and the one to which that refers.
use Rattle.std.proofs.Common.{◌≡◌, ◌⊎◌, inl, inr, sym, ap, ◌∙◌, subst, ℕ, ◌+◌, ◌<◌, Option, Some, None, true, false}
use Rattle.b67_list.proofs.Numbers.{none_some}
use Rattle.b67_rows.proofs.Prelude.{Word, Place, irw_laws, as_pcw_other, as_irw, as_sirw, as_pcw, Irw, Pcw, Registers, Sirw, Couple, Operator, word_at, place, Image, display_at, cell_place, cell_in, couple_cell, irw_or_sirw, sirw_cell, cell_of, level_below, Cell, some_same}
use Rattle.b67_control.proofs.ControlLaws.{sirw_laws}
use Rattle.b67_ops.specs.declared.BranchKind.{BranchKind}
use Rattle.b67_ops.specs.declared.Operator.TheVariants as ops
use Rattle.b67_ops.specs.declared.PlainKind.{PlainKind}
use Rattle.b67_ops.specs.declared.PlainKind.TheVariants as kinds
use Rattle.b67_footprints.specs.Reaching.{TakesBy, OperatorTakes, OperatorFollows, IsIntrinsic}
use Rattle.b67_footprints.proofs.Within.{AreNamed, named_are}
use Rattle.b67_rows.proofs.Described.{IsFound, itself, in_cell, through_cell}
use Rattle.b67_rows.proofs.Touching.{NearFrame, NearCell, NamesNear}

module _ (p : ℕ) (img : Image) (r : Registers) where
  -- the word at a place is one only
  pub one_word : (x : Place) (v w : Word) → word_at img.stacks x ≡ Some v → word_at img.stacks x ≡ Some w → v ≡ w
  one_word x v w e f = some_same (sym e ∙ f)

  -- ---- what is named by a word

  no_cell : (w : Word) → as_irw w ≡ None → as_sirw w ≡ None → (c : Cell) → cell_of r w ≡ Some c → ⊥
  no_cell w no_irw no_sirw c e =
      none_some (sym (ap (λ (i : Option Irw). irw_or_sirw r i (as_sirw w)) no_irw ∙ ap (λ (s : Option Sirw). irw_or_sirw r None s) no_sirw) ∙ e)

  referred_cell : (w : Word) (s : Sirw) → as_sirw w ≡ Some s → (c : Cell) → cell_of r w ≡ Some c → c ≡ sirw_cell s
  referred_cell w s reads c e =
      some_same
      (sym e
      ∙ ap (λ (i : Option Irw). irw_or_sirw r i (as_sirw w)) (irw_laws.other w (λ k. let is = sym (sirw_laws.kind w s reads) ∙ k in cc))
      ∙ ap (λ (o : Option Sirw). irw_or_sirw r None o) reads)

  pub one_cell : (w : Word) (i : Irw) (f : Place) → as_irw w ≡ Some i → display_at r i.level ≡ Some f → (c : Cell) → cell_of r w ≡ Some c → c ≡ record { frame = f; index = i.index }
  one_cell w i f reads shown c e =
      some_same (sym e ∙ ap (λ (o : Option Irw). irw_or_sirw r o (as_sirw w)) reads ∙ ap (λ (o : Option Place). cell_in o i.index) shown)

  -- ---- VALC, of a cell that holds no reference

  module _ (couple : Couple) (f : Place) (shown : display_at r couple.level ≡ Some f) (near : NearCell p img (record { frame = f; index = couple.index })) (w : Word) (lies : word_at img.stacks (place f.stack (f.at + couple.index)) ≡ Some w)
      (no_sirw : as_sirw w ≡ None) where
    abbrev There : Cell → Type 0
    There c = c ≡ record { frame = f; index = couple.index }

    same_couple : (other : Couple) → ops.Valc couple ≡ ops.Valc other → couple ≡ other
    same_couple other e = cc

    only_there : (c : Cell) (other : Couple) → ops.Valc couple ≡ ops.Valc other → couple_cell r other.level other.index ≡ Some c → There c
    only_there c other is e =
        some_same (sym e ∙ sym (ap (λ (k : Couple). couple_cell r k.level k.index) (same_couple other is)) ∙ ap (λ (o : Option Place). cell_in o couple.index) shown)

    value_named : AreNamed img (ops.Valc couple) r There
    value_named =
        record {
          couple = only_there;
          taken = λ c n x takes there e. absurd takes;
          reference = λ b x s follows same there is.
              none_some (sym no_sirw ∙ ap as_sirw (one_word (place f.stack (f.at + couple.index)) w x lies (subst (λ (k : Cell). word_at img.stacks (cell_place k) ≡ Some x) same there)) ∙ is);
          argument = λ c v x n is there kind after lies_there e. cc;
          its_argument = λ b c v x n is same there kind after lies_there e. cc;
        }

    pub value_names : NamesNear p img (ops.Valc couple) r
    value_names =
        record {
          cells = λ c k. subst (NearCell p img) (sym (named_are img (ops.Valc couple) r There value_named k)) near;
          around = λ g x pcw is there reads e. cc;
        }

  -- ---- VALC, of a cell that has a reference to one that holds none

  module _ (couple : Couple) (f : Place) (shown : display_at r couple.level ≡ Some f) (near : NearCell p img (record { frame = f; index = couple.index })) (v : Word)
      (lies : word_at img.stacks (place f.stack (f.at + couple.index)) ≡ Some v) (t : Sirw) (leads : as_sirw v ≡ Some t) (near_there : NearCell p img (sirw_cell t)) (w : Word)
      (further : word_at img.stacks (cell_place (sirw_cell t)) ≡ Some w) (no_sirw : as_sirw w ≡ None) where
    abbrev OnWay : Cell → Type 0
    OnWay c = (c ≡ record { frame = f; index = couple.index }) ⊎ (c ≡ sirw_cell t)

    this_couple : (other : Couple) → ops.Valc couple ≡ ops.Valc other → couple ≡ other
    this_couple other e = cc

    first_there : (c : Cell) (other : Couple) → ops.Valc couple ≡ ops.Valc other → couple_cell r other.level other.index ≡ Some c → OnWay c
    first_there c other is e =
        inl (some_same (sym e ∙ sym (ap (λ (k : Couple). couple_cell r k.level k.index) (this_couple other is)) ∙ ap (λ (o : Option Place). cell_in o couple.index) shown))

    led_on : (b : Cell) (x : Word) (s : Sirw) → OnWay b → word_at img.stacks (cell_place b) ≡ Some x → as_sirw x ≡ Some s → OnWay (sirw_cell s)
    led_on b x s (inl same) there is =
        let word : v ≡ x = one_word (place f.stack (f.at + couple.index)) v x lies (subst (λ (k : Cell). word_at img.stacks (cell_place k) ≡ Some x) same there) in
        inr (ap sirw_cell (some_same (sym is ∙ ap as_sirw (sym word) ∙ leads)))
    led_on b x s (inr same) there is =
        none_some (sym no_sirw ∙ ap as_sirw (one_word (cell_place (sirw_cell t)) w x further (subst (λ (k : Cell). word_at img.stacks (cell_place k) ≡ Some x) same there)) ∙ is)

    way_near : (c : Cell) → OnWay c → NearCell p img c
    way_near c (inl same) = subst (NearCell p img) (sym same) near
    way_near c (inr same) = subst (NearCell p img) (sym same) near_there

    way_named : AreNamed img (ops.Valc couple) r OnWay
    way_named =
        record {
          couple = first_there;
          taken = λ c n x takes there e. absurd takes;
          reference = λ b x s follows same there is. led_on b x s same there is;
          argument = λ c y x n is there kind after lies_there e. cc;
          its_argument = λ b c y x n is same there kind after lies_there e. cc;
        }

    pub value_names_through : NamesNear p img (ops.Valc couple) r
    value_names_through =
        record {
          cells = λ c k. way_near c (named_are img (ops.Valc couple) r OnWay way_named k);
          around = λ g x pcw is there reads e. cc;
        }

  -- ---- a branch

  pub branch_names : (kind : BranchKind) (target : ℕ) → NamesNear p img (ops.Branch kind target) r
  branch_names kind target =
      record {
        cells = λ c k. absurd (named_are img (ops.Branch kind target) r (λ (d : Cell). ⊥) are k);
        around = λ g x pcw is there reads e. cc;
      }
    where
      are : AreNamed img (ops.Branch kind target) r (λ (d : Cell). ⊥)
      are =
          record {
            couple = λ c couple is e. cc;
            taken = λ c n x takes there e. takes;
            reference = λ b x s follows same there is. same;
            argument = λ c v x n is there kind_is after lies_there e. cc;
            its_argument = λ b c v x n is same there kind_is after lies_there e. same;
          }

  -- ---- an operator that names cells by no couple, and enters nothing

  module _ (kind : PlainKind) (enters : ops.Plain kind ≡ ops.Plain kinds.Entr → ⊥) where
    abbrev op : Operator
    op = ops.Plain kind

    -- no word is taken
    pub none_named : ((n : ℕ) → TakesBy kind r n → ⊥) → NamesNear p img (ops.Plain kind) r
    none_named none =
        record {
          cells = λ c k. absurd (named_are img op r (λ (d : Cell). ⊥) are k);
          around = λ g x pcw is there reads e. absurd (enters is);
        }
      where
        are : AreNamed img op r (λ (d : Cell). ⊥)
        are =
            record {
              couple = λ c couple is e. cc;
              taken = λ c n x takes there e. none n takes;
              reference = λ b x s follows same there is. same;
              argument = λ c v x n is there kind_is after lies_there e. enters is;
              its_argument = λ b c v x n is same there kind_is after lies_there e. same;
            }

    -- ---- the word at one place is taken

    module _ (n : ℕ) (only : (m : ℕ) → TakesBy kind r m → m ≡ n) (x : Word) (lies : word_at img.stacks (place r.stack n) ≡ Some x) where
      taken_is : (m : ℕ) (y : Word) → TakesBy kind r m → word_at img.stacks (place r.stack m) ≡ Some y → x ≡ y
      taken_is m y takes there = one_word (place r.stack n) x y lies (subst (λ (k : ℕ). word_at img.stacks (place r.stack k) ≡ Some y) (only m takes) there)

      -- a property of cells, of the one that the word names and of those to which it leads
      module _ (C : Cell → Type 0) (first : (c : Cell) → cell_of r x ≡ Some c → C c) (further : (b : Cell) (w : Word) (s : Sirw) → OperatorFollows op → C b → word_at img.stacks (cell_place b) ≡ Some w → as_sirw w ≡ Some s → C (sirw_cell s))
          (near : (c : Cell) → C c → NearCell p img c) where
        pub word_named : NamesNear p img (ops.Plain kind) r
        word_named =
            record {
              cells = λ c k. near c (named_are img op r C are k);
              around = λ g y pcw is there reads e. absurd (enters is);
            }
          where
            are : AreNamed img op r C
            are =
                record {
                  couple = λ c couple is e. cc;
                  taken = λ c m y takes there e. first c (ap (cell_of r) (taken_is m y takes there) ∙ e);
                  reference = further;
                  argument = λ c v y m is there kind_is after lies_there e. absurd (enters is);
                  its_argument = λ b c v y m is same there kind_is after lies_there e. absurd (enters is);
                }

      -- it goes no further than the cell that the word names
      pub cell_named : (OperatorFollows (ops.Plain kind) → ⊥) → (i : Irw) (f : Place) → as_irw x ≡ Some i → display_at r i.level ≡ Some f → NearCell p img (record { frame = f; index = i.index }) → NamesNear p img (ops.Plain kind) r
      cell_named stays i f reads shown near =
          word_named (λ (c : Cell). c ≡ record { frame = f; index = i.index }) (one_cell x i f reads shown) (λ b w s follows same there is. absurd (stays follows))
          (λ c same. subst (NearCell p img) (sym same) near)

      -- .. where the word is read alike everywhere
      pub refers_named : (OperatorFollows (ops.Plain kind) → ⊥) → (s : Sirw) → as_sirw x ≡ Some s → NearCell p img (sirw_cell s) → NamesNear p img (ops.Plain kind) r
      refers_named stays s reads near =
          word_named (λ (c : Cell). c ≡ sirw_cell s) (referred_cell x s reads) (λ b w t follows same there is. absurd (stays follows)) (λ c same. subst (NearCell p img) (sym same) near)

      -- it goes on from the cell that the word names to the one to which that refers, and no further
      module _ (i : Irw) (home : Place) (v : Word) (t : Sirw) (w : Word) (reads : as_irw x ≡ Some i) (shown : display_at r i.level ≡ Some home) (near : NearCell p img (record { frame = home; index = i.index }))
          (there : word_at img.stacks (place home.stack (home.at + i.index)) ≡ Some v) (refers : as_sirw v ≡ Some t) (near_there : NearCell p img (sirw_cell t)) (further : word_at img.stacks (cell_place (sirw_cell t)) ≡ Some w)
          (no_sirw : as_sirw w ≡ None) where
        abbrev first : Cell
        first = record { frame = home; index = i.index }

        abbrev Both : Cell → Type 0
        Both c = (c ≡ first) ⊎ (c ≡ sirw_cell t)

        go_on : (b : Cell) (y : Word) (s : Sirw) → OperatorFollows op → Both b → word_at img.stacks (cell_place b) ≡ Some y → as_sirw y ≡ Some s → Both (sirw_cell s)
        go_on b y s follows (inl same) lies_there is =
            let word : v ≡ y = one_word (place home.stack (home.at + i.index)) v y there (subst (λ (k : Cell). word_at img.stacks (cell_place k) ≡ Some y) same lies_there) in
            inr (ap sirw_cell (some_same (sym is ∙ ap as_sirw (sym word) ∙ refers)))
        go_on b y s follows (inr same) lies_there is =
            none_some (sym no_sirw ∙ ap as_sirw (one_word (cell_place (sirw_cell t)) w y further (subst (λ (k : Cell). word_at img.stacks (cell_place k) ≡ Some y) same lies_there)) ∙ is)

        both_near : (c : Cell) → Both c → NearCell p img c
        both_near c (inl same) = subst (NearCell p img) (sym same) near
        both_near c (inr same) = subst (NearCell p img) (sym same) near_there

        pub through_named : NamesNear p img (ops.Plain kind) r
        through_named = word_named Both (λ c e. inl (one_cell x i home reads shown c e)) go_on both_near

      -- an array is found
      pub found_named : IsFound p img r x → NamesNear p img (ops.Plain kind) r
      found_named (itself no_irw no_sirw) = word_named (λ (c : Cell). ⊥) (no_cell x no_irw no_sirw) (λ b w s follows same there is. absurd same) (λ c same. absurd same)
      found_named (in_cell i home w reads shown near there no_sirw) =
          word_named (λ (c : Cell). c ≡ record { frame = home; index = i.index }) (one_cell x i home reads shown)
          (λ b v s follows same lies_there is.
          none_some (sym no_sirw ∙ ap as_sirw (one_word (place home.stack (home.at + i.index)) w v there (subst (λ (k : Cell). word_at img.stacks (cell_place k) ≡ Some v) same lies_there)) ∙ is))
          (λ c same. subst (NearCell p img) (sym same) near)
      found_named (through_cell i home v t w reads shown near there refers near_there further no_sirw) = through_named i home v t w reads shown near there refers near_there further no_sirw

  -- ---- ENTR, of the word above the mark

  module _ (w : Word) (lies : word_at img.stacks (place r.stack (r.f + 1)) ≡ Some w) where
    abbrev entr : Operator
    entr = ops.Plain kinds.Entr

    taken_word : (n : ℕ) (v : Word) → OperatorTakes entr r n → word_at img.stacks (place r.stack n) ≡ Some v → w ≡ v
    taken_word n v takes there = one_word (place r.stack (r.f + 1)) w v lies (subst (λ (k : ℕ). word_at img.stacks (place r.stack k) ≡ Some v) takes there)

    pub no_kind : (v : Word) (c : Pcw) → as_pcw v ≡ Some c → c.intrinsic ≡ false → IsIntrinsic v → ⊥
    no_kind v c reads no_intrinsic kind =
        let same : c ≡ kind.0 = some_same (sym reads ∙ kind.1) in
        let on : c.intrinsic ≡ true = ap (λ (d : Pcw). d.intrinsic) same ∙ kind.2 in cc

    -- the control word of a block
    module _ (no_irw : as_irw w ≡ None) (no_sirw : as_sirw w ≡ None) (c : Pcw) (reads : as_pcw w ≡ Some c) (no_intrinsic : c.intrinsic ≡ false)
        (near : (h : Place) → level_below r c.level ≡ Some h → NearFrame p img h) where
      control_named : AreNamed img (ops.Plain kinds.Entr) r (λ (d : Cell). ⊥)
      control_named =
          record {
            couple = λ d couple is e. cc;
            taken = λ d n v takes there e. no_cell w no_irw no_sirw d (ap (cell_of r) (taken_word n v takes there) ∙ e);
            reference = λ b v s follows same there is. same;
            argument = λ d v u n is there kind after lies_there e. no_kind w c reads no_intrinsic (subst IsIntrinsic (sym (one_word (place r.stack (r.f + 1)) w v lies there)) kind);
            its_argument = λ b d v u n is same there kind after lies_there e. same;
          }

      pub block_names : NamesNear p img (ops.Plain kinds.Entr) r
      block_names =
          record {
            cells = λ d k. absurd (named_are img entr r (λ (e : Cell). ⊥) control_named k);
            around = λ f v pcw is there pcw_is e.
                near f (ap (λ (k : Pcw). level_below r k.level) (some_same (sym reads ∙ ap as_pcw (one_word (place r.stack (r.f + 1)) w v lies there) ∙ pcw_is)) ∙ e);
          }

    -- the reference to a cell in which a control word lies
    module _ (i : Irw) (reads : as_irw w ≡ Some i) (f : Place) (shown : display_at r i.level ≡ Some f) (near : NearCell p img (record { frame = f; index = i.index })) (word : Word)
        (there : word_at img.stacks (place f.stack (f.at + i.index)) ≡ Some word) (no_sirw : as_sirw word ≡ None) where
      abbrev IsCell : Cell → Type 0
      IsCell d = d ≡ record { frame = f; index = i.index }

      no_control : as_pcw w ≡ None
      no_control = as_pcw_other w (λ k. let is = sym (irw_laws.kind w i reads) ∙ k in cc)

      word_there : (d : Cell) (v : Word) → IsCell d → word_at img.stacks (cell_place d) ≡ Some v → word ≡ v
      word_there d v same lies_there = one_word (place f.stack (f.at + i.index)) word v there (subst (λ (k : Cell). word_at img.stacks (cell_place k) ≡ Some v) same lies_there)

      not_there : (v : Word) → word_at img.stacks (place r.stack (r.f + 1)) ≡ Some v → IsIntrinsic v → ⊥
      not_there v lies_there kind = none_some (sym no_control ∙ ap as_pcw (one_word (place r.stack (r.f + 1)) w v lies lies_there) ∙ kind.1)

      -- it is no intrinsic's, or what is above names no cell
      module _ (arguments : IsIntrinsic word → (n : ℕ) (u : Word) (d : Cell) → r.f + 1 < n → word_at img.stacks (place r.stack n) ≡ Some u → cell_of r u ≡ Some d → ⊥) where
        entry_named : AreNamed img (ops.Plain kinds.Entr) r IsCell
        entry_named =
            record {
              couple = λ d couple is e. cc;
              taken = λ d n v takes lies_there e. one_cell w i f reads shown d (ap (cell_of r) (taken_word n v takes lies_there) ∙ e);
              reference = λ b v s follows same lies_there is. none_some (sym no_sirw ∙ ap as_sirw (word_there b v same lies_there) ∙ is);
              argument = λ d v u n is lies_there kind after above e. absurd (not_there v lies_there kind);
              its_argument = λ b d v u n is same lies_there kind after above e.
                  absurd (arguments (subst IsIntrinsic (sym (word_there b v same lies_there)) kind) n u d after above e);
            }

        pub entry_names : NamesNear p img (ops.Plain kinds.Entr) r
        entry_names =
            record {
              cells = λ d k. subst (NearCell p img) (sym (named_are img entr r IsCell entry_named k)) near;
              around = λ g v pcw is lies_there pcw_is e. none_some (sym no_control ∙ ap as_pcw (one_word (place r.stack (r.f + 1)) w v lies lies_there) ∙ pcw_is);
            }

      -- or what is above names near cells
      module _ (A : Cell → Type 0) (arguments : (n : ℕ) (u : Word) (d : Cell) → r.f + 1 < n → word_at img.stacks (place r.stack n) ≡ Some u → cell_of r u ≡ Some d → A d)
          (further : (b : Cell) (v : Word) (s : Sirw) → A b → word_at img.stacks (cell_place b) ≡ Some v → as_sirw v ≡ Some s → A (sirw_cell s)) (near_above : (d : Cell) → A d → NearCell p img d) where
        abbrev IsEither : Cell → Type 0
        IsEither d = IsCell d ⊎ A d

        goes_further : (b : Cell) (v : Word) (s : Sirw) → IsEither b → word_at img.stacks (cell_place b) ≡ Some v → as_sirw v ≡ Some s → IsEither (sirw_cell s)
        goes_further b v s (inl same) lies_there is = none_some (sym no_sirw ∙ ap as_sirw (word_there b v same lies_there) ∙ is)
        goes_further b v s (inr above) lies_there is = inr (further b v s above lies_there is)

        either_near : (d : Cell) → IsEither d → NearCell p img d
        either_near d (inl same) = subst (NearCell p img) (sym same) near
        either_near d (inr above) = near_above d above

        either_named : AreNamed img (ops.Plain kinds.Entr) r IsEither
        either_named =
            record {
              couple = λ d couple is e. cc;
              taken = λ d n v takes lies_there e. inl (one_cell w i f reads shown d (ap (cell_of r) (taken_word n v takes lies_there) ∙ e));
              reference = λ b v s follows k lies_there is. goes_further b v s k lies_there is;
              argument = λ d v u n is lies_there kind after above e. inr (arguments n u d after above e);
              its_argument = λ b d v u n is k lies_there kind after above e. inr (arguments n u d after above e);
            }

        pub entry_names_above : NamesNear p img (ops.Plain kinds.Entr) r
        entry_names_above =
            record {
              cells = λ d k. either_near d (named_are img entr r IsEither either_named k);
              around = λ g v pcw is lies_there pcw_is e. none_some (sym no_control ∙ ap as_pcw (one_word (place r.stack (r.f + 1)) w v lies lies_there) ∙ pcw_is);
            }
