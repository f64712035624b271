-- Whom the operator of an action releases: whom the action of the source releases.
use Rattle.std.proofs.Common.{◌≡◌, ◌⊎◌, inl, inr, refl, sym, ap, ◌∙◌, subst, ℕ, [], Option, Some, None, false}
use Rattle.b67_pictures.proofs.Prelude.{numbered, FaultKind, Letter, End, PProgram, scopes_of, choice, Reference, World, Registers, Code, Image, Outcome, faults, limit, letter, registers_releases, released_by, releases, Texts, ReleasesNone, some_same, Does, gave, failed_by, stopped}
use Rattle.b67_table.specs.Table.{table}
use Rattle.b67_deeds.specs.declared.Letter.TheVariants as letters
use Rattle.b67_letters.specs.Laws.{may_release}
use Rattle.b67_letters.proofs.Mute.{few_operators_release}
use Rattle.b67_faithful.proofs.Choices.{is_releasing, EndsIdle}

-- where the operator does not come to the stack limit
abbrev pub IsReleased : PProgram → Code → World → Image → ℕ → Type 0
IsReleased tree code w img p = (table code img p ≡ limit → ⊥) → releases code img p ≡ (choice (scopes_of tree) w p).released

-- an action that is none on an event
harmless : (l : Letter) → is_releasing l ≡ false → (may_release l ≡ false) ⊎ (l ≡ letters.End)
harmless letters.Read e = inl refl
harmless letters.Index e = inl refl
harmless letters.ElementRead e = inl refl
harmless letters.Resolve e = inl refl
harmless letters.Store e = inl refl
harmless letters.ElementStore e = inl refl
harmless letters.Pass e = inl refl
harmless letters.Enter e = inl refl
harmless letters.Leave e = inl refl
harmless letters.MakeArrays e = inl refl
harmless letters.MakeEvent e = inl refl
harmless letters.Select e = inl refl
harmless letters.Turn e = inl refl
harmless letters.GoTo e = inl refl
harmless letters.Line e = inl refl
harmless letters.Start e = inl refl
harmless letters.End e = inr refl
harmless letters.Fault e = inl refl
harmless letters.Wait e = inl refl
harmless letters.Cause e = cc
harmless letters.Reset e = inl refl
harmless letters.Happened e = inl refl
harmless letters.Procure e = inl refl
harmless letters.Liberate e = cc
harmless letters.CauseAndReset e = cc
harmless letters.WaitAny e = inl refl
harmless letters.Woke e = inl refl
harmless letters.Available e = inl refl
harmless letters.Fix e = inl refl

released_none : (code : Code) (img : Image) (p : ℕ) (r : Registers) → numbered img.regs p ≡ Some r → (x : Letter) → (x ≡ End → r.task ≡ None) → letter code img p ≡ Some x → is_releasing x ≡ false
    → releases code img p ≡ []
released_none code img p r has x idle is calm = by_letter (letter code img p) refl is
  where
    by_kind : (l : Letter) → letter code img p ≡ Some l → l ≡ x → (may_release l ≡ false) ⊎ (l ≡ letters.End) → releases code img p ≡ []
    by_kind l e same (inl never) = few_operators_release.others code img p l e never
    by_kind l e same (inr ends) = few_operators_release.ends code img p r (e ∙ ap (λ (k : Letter). Some k) ends) has (idle (sym same ∙ ends))

    by_letter : (o : Option Letter) → letter code img p ≡ o → o ≡ Some x → releases code img p ≡ []
    by_letter None e a = cc
    by_letter (Some l) e a = by_kind l e (some_same a) (harmless l (ap is_releasing (some_same a) ∙ calm))

fault_releases : (code : Code) (img : Image) (p : ℕ) (kind : FaultKind) → table code img p ≡ faults kind → releases code img p ≡ []
fault_releases code img p kind t = ap (λ (o : Outcome Image). released_by o (registers_releases code img p (numbered img.regs p))) t

-- an action that releases nobody, of a process whose register has no task where it has none
pub none_released : (tree : PProgram) (code : Code) (texts : Texts) (w : World) (img : Image) (p : ℕ) (r : Registers) → numbered img.regs p ≡ Some r → (task : Option Reference) → (task ≡ None → r.task ≡ None) →
    ReleasesNone task (choice (scopes_of tree) w p) → Does tree code texts w img p → IsReleased tree code w img p
none_released tree code texts w img p r has task told none (gave after np t action by) no_limit =
    released_none code img p r has ((choice (scopes_of tree) w p).action) (λ (e : (choice (scopes_of tree) w p).action ≡ End). told (subst (EndsIdle task) e none.idle)) action none.calm ∙ sym none.none
none_released tree code texts w img p r has task told none (failed_by kind np t action by) no_limit = fault_releases code img p kind t ∙ sym none.none
none_released tree code texts w img p r has task told none (stopped np t heavy) no_limit = absurd (no_limit t)
