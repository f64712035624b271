use Rattle.std.proofs.Common.{sym, arith}
use Rattle.b67_ops.proofs.Laws.{decoded_ok, decoded_cut_short, decoded_above, decoded_unknown, decoded_within}
use Rattle.b67_ops.proofs.decode.Goals as goal

pub returns-clause-ok : goal.returns-clause-ok
returns-clause-ok c op next =
    let bytes = c.args.bytes.now in
    rw c.decode_at.ensures (decoded_ok bytes c.args.at c.args.level c.requires (λ i. omega (arith, c.type_inv.bytes i)) op next)

pub returns-clause-cut_short : goal.returns-clause-cut_short
returns-clause-cut_short c =
    let bytes = c.args.bytes.now in
    rw c.decode_at.ensures (decoded_cut_short bytes c.args.at c.args.level c.requires (λ i. omega (arith, c.type_inv.bytes i)))

pub returns-clause-bad_level : goal.returns-clause-bad_level
returns-clause-bad_level c =
    let bytes = c.args.bytes.now in
    rw c.decode_at.ensures (decoded_above bytes c.args.at c.args.level c.requires (λ i. omega (arith, c.type_inv.bytes i)))

pub returns-clause-unknown : goal.returns-clause-unknown
returns-clause-unknown c =
    let bytes = c.args.bytes.now in
    rw c.decode_at.ensures (decoded_unknown bytes c.args.at c.args.level c.requires (λ i. omega (arith, c.type_inv.bytes i)))

pub returns-clause-within : goal.returns-clause-within
returns-clause-within c =
    let bytes = c.args.bytes.now in
    decoded_within bytes c.args.at c.args.level c.requires (λ i. omega (arith, c.type_inv.bytes i)) c.decode_at.result (sym c.decode_at.ensures)
