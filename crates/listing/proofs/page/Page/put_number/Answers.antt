use Rattle.std.proofs.Common.{rules, arith}
use Rattle.meaning.proofs.Numerals.{numeral_decimal}
use Rattle.listing.proofs.page.Page.put_number.Goals as goal

pub returns : goal.returns
returns c = rw (numeral_decimal c.args.n (omega (arith, c.ranges.n.fits))) (search rules)
