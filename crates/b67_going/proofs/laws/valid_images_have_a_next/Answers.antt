use Rattle.b67_going.proofs.Next.{valid_have_next}
use Rattle.b67_going.proofs.laws.valid_images_have_a_next.Goals as goal

pub returns : goal.returns
returns c = valid_have_next
