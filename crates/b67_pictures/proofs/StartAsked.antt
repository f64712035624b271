-- Who starts a process has nothing to make.
use Rattle.std.proofs.Common.{◌≡◌, refl, List, [], Option}
use Rattle.b67_pictures.proofs.Prelude.{Named, starts, ask, Given, Rest, all_to_make}
use Rattle.algol_meaning.specs.Rest.{Hole, read, element, index, tests, broken, enter, inside, subscript, argument, left, right, negated, inverted, condition, Actuals, pass, in_value, arrays, event, bounding}
use Rattle.algol_meaning.specs.Asks.{ask_hole, ask_actuals}

-- an expression starts none
mutual
  hole_starts : (n : Named) (gs : List Given) (task : Option Named) (h : Hole) → ask_hole h ≡ starts n gs task → ⊥
  hole_starts n gs task (read m) e = cc
  hole_starts n gs task (element m ks i) e = cc
  hole_starts n gs task (index m ks i x es) e = cc
  hole_starts n gs task (tests x ns) e = cc
  hole_starts n gs task (broken op v w fault) e = cc
  hole_starts n gs task (enter m hs) e = cc
  hole_starts n gs task inside e = cc
  hole_starts n gs task (subscript m ks h es) e = hole_starts n gs task h e
  hole_starts n gs task (argument m x) e = actuals_start n gs task x e
  hole_starts n gs task (left op h b) e = hole_starts n gs task h e
  hole_starts n gs task (right op v h) e = hole_starts n gs task h e
  hole_starts n gs task (negated h) e = hole_starts n gs task h e
  hole_starts n gs task (inverted h) e = hole_starts n gs task h e
  hole_starts n gs task (condition h x y) e = hole_starts n gs task h e

  actuals_start : (n : Named) (gs : List Given) (task : Option Named) (x : Actuals) → ask_actuals x ≡ starts n gs task → ⊥
  actuals_start n gs task (pass hs m sorts es) e = cc
  actuals_start n gs task (in_value hs h sorts es) e = hole_starts n gs task h e

pub none_to_make : (n : Named) (gs : List Given) (task : Option Named) (r : Rest) → ask r ≡ starts n gs task → all_to_make r ≡ []
none_to_make n gs task (arrays kind ns pairs vs k) e = cc
none_to_make n gs task (event m k) e = cc
none_to_make n gs task (bounding kind ns pairs vs h ps k) e = absurd (hole_starts n gs task h e)
none_to_make n gs task r e = refl
