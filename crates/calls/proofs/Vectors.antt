-- The worked examples hold, by computation.
use Rattle.std.proofs.Common.{refl}
use mathlib.Core.Logic.Dec
use native.Mathlib.Decide.{ℕ_discrete}
use Rattle.meaning.specs.Terms.{trees, term}
use Rattle.meaning.specs.Finite.{mem_dec, finite_dec, all_or, none_of, one_of, listed, keep, either, remap}
use Rattle.meaning.specs.Finite.{kept, image, bind_list, bind, flat, finite, in_dec, tuple_dec}
use Rattle.meaning.specs.Chains.{Dec-⊎, Dec-×, through_dec, chain_dec}
use Rattle.calls.specs.Models.{same_dec, holds_dec, sat_dec}
use Rattle.calls.specs.Vectors.{Examples}

pub examples : Examples
unfolding trees term ℕ_discrete mem_dec finite_dec all_or none_of one_of listed keep either remap kept image bind_list bind flat finite in_dec tuple_dec Dec-⊎ Dec-× through_dec chain_dec same_dec holds_dec sat_dec Dec.not
examples = record {
  closes = refl;
  opens = refl;
  false_constraint = refl;
  unlawful = refl;
  nothing = refl;
  known = refl;
  unknown = refl;
  same_tag = refl;
  join_of_unary = refl;
}
