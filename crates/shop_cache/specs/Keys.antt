-- The lists that requests ask for.
use Rattle.std.specs.Prelude.{Bool, false, ◌&&◌, Option, Some, None}
use Rattle.std.specs.Str.{bytes_eq}
use denote.Enum.Bare.{sameb}
use Rattle.shop_model.specs.declared.requests.Request.{Request}
use Rattle.shop_model.specs.declared.requests.Request.TheVariants.{NewProducts, BestSellers, SearchResults}
use Rattle.shop_model.specs.contracts.subject.Subject.{the_type as subjects}
use Rattle.shop_model.specs.contracts.requests.SearchKind.{the_type as kinds}
use Rattle.shop_cache.specs.declared.keys.ListKey.{ListKey}
use Rattle.shop_cache.specs.declared.keys.ListKey.TheVariants.{New, Best, Found}

-- the list that a request asks for
abbrev pub key_asked : Request → Option ListKey
key_asked (NewProducts asked) = Some (New asked.subject)
key_asked (BestSellers asked) = Some (Best asked.subject)
key_asked (SearchResults asked) = Some (Found asked.kind asked.text)
key_asked _ = None

-- two keys are the same
abbrev pub same_list : ListKey → ListKey → Bool
same_list (New a) (New b) = sameb subjects a b
same_list (Best a) (Best b) = sameb subjects a b
same_list (Found k s) (Found m t) = sameb kinds k m && bytes_eq s t
same_list _ _ = false
