-- The laws of skeletons.
use Rattle.std.proofs.Common.{◌⊎◌, refl}
use Rattle.algol_standing.specs.Laws.{SkeletonsAreKept, PathsStand}
use Rattle.algol_standing.proofs.Standing.{stands_path}
use Rattle.algol_standing.proofs.Growth.{enter_ok}
use Rattle.algol_standing.proofs.Shrink.{leave_ok}
use Rattle.algol_standing.proofs.Firsts.{from_first, there_is, start_first, evaluations_ok}
use Rattle.algol_standing.proofs.Going.{goes_ok}

pub skeletons_are_kept : SkeletonsAreKept
skeletons_are_kept = record {
  enters = λ s p q i r refs ok is own paths. enter_ok s ok p q i r is own refs paths;
  starts = λ s i c refs ok st f paths. start_first s ok i c refs st f paths;
  leaves = λ s p q i r live ok is own free idle ends lived.
      leave_ok s ok p q i r is own (λ k y e l c. free i (◌⊎◌.inl refl) k y e l c) (λ e n same. idle i (◌⊎◌.inl refl) e n same) live ends lived;
  evaluates = λ s p q es ok is fine. evaluations_ok s ok p q is es fine;
  goes = λ s p q newer rest ok is own live free idle. goes_ok newer s ok p q rest is own live free idle;
}

pub paths_stand : PathsStand
paths_stand = record {
  stands = λ s a b ok st l. stands_path s ok a b st l;
  first = λ s refs i x ok m l. there_is s ok refs i x m l;
  leads = λ s refs i c x ok f m l. from_first s ok refs i c f x m l;
}
