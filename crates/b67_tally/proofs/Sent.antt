-- The tokens of a tally name no thread's key, so they may go to another thread.
use mathlib.Core.List.{List, [], ◌∷◌}
use Prim.Native.Nat.{ℕ, zero, suc}
use base.Shift.{Keyless}
use denote.Param.Send.{IsSend}
use Rattle.b67_tally.specs.Owned.{chain, half, tally_owns, mark_owns}
use Rattle.b67_tally.specs.contracts.Tally as Tally
use Rattle.b67_tally.specs.contracts.Mark as Mark

chain_Keyless : (xs : List ℕ) (γ : ℕ) → Keyless (chain xs γ)
chain_Keyless [] γ = (tt, tt)
chain_Keyless (x ∷ xs) γ = λ c. (tt, (tt, (tt, chain_Keyless xs c.1)))

half_Keyless : (i x γ : ℕ) → Keyless (half i x γ)
half_Keyless zero x γ = λ c. (tt, tt)
half_Keyless (suc i) x γ = λ c. (tt, half_Keyless i x c.1)

tally_keyless : (γ : ℕ) (xs : List ℕ) → Keyless (tally_owns γ xs)
unfolding tally_owns
tally_keyless γ xs = chain_Keyless xs γ

mark_keyless : (γ i n : ℕ) → Keyless (mark_owns γ i n)
unfolding mark_owns
mark_keyless γ i n = half_Keyless i n γ

pub tally_send : IsSend Tally.the_row
tally_send = record { owned = λ d vs. ((λ vss. (tt, ((λ uss. (tt, tt)), tt))), tally_keyless d.name d.numbers); leaving = λ k f vs. tt }

pub mark_send : IsSend Mark.the_row
mark_send = record { owned = λ d vs. ((λ vss. (tt, ((λ uss. (tt, tt)), tt))), mark_keyless d.name d.place d.number); leaving = λ k f vs. tt }
