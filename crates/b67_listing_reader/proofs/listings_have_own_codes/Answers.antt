use Rattle.b67_listing_reader.proofs.Ahead.{one_code}
use Rattle.b67_listing_reader.proofs.listings_have_own_codes.Goals as goal

pub returns : goal.returns
returns c = one_code
