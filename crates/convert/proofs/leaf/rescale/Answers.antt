-- `convert::leaf::rescale` meets its contract: a law for each change of unit. Assumes nothing.
use Rattle.convert.proofs.Pairs.{multiplies, divides, rescaled-count, rescaled-over, rescaled-down, rescaled-same}
use Rattle.convert.proofs.leaf.rescale.Goals as goal

pub multiply-requires : goal.multiply-requires
multiply-requires c =
    multiplies c.requires c.in-Multiply.is

pub divide-requires : goal.divide-requires
divide-requires c =
    divides c.requires c.in-Divide.is

pub returns-in-Some : goal.returns-in-Some
returns-in-Some c =
    λ k. rescaled-count k _ c.in-Multiply.is c.multiply.ensures c.in-Some.is

pub returns-in-None : goal.returns-in-None
returns-in-None c =
    λ k. rescaled-over k _ c.in-Multiply.is c.multiply.ensures c.in-None.is

pub returns-in-Divide : goal.returns-in-Divide
returns-in-Divide c =
    λ k. rescaled-down k _ c.in-Divide.is c.divide.ensures

pub returns-in-Keep : goal.returns-in-Keep
returns-in-Keep c =
    λ k. rescaled-same k _ c.in-Keep.is
