use Rattle.std.proofs.Common.{rules}
use Rattle.listing.proofs.Pages.{heard}
use Rattle.listing.proofs.page.fill.Goals as goal

pub returns-clause-heard : goal.returns-clause-heard
returns-clause-heard g c = search (rules, heard)
