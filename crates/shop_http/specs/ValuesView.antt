-- The encoded values of a message as contracts see them.
use Rattle.std.specs.Prelude.{None, slice_index_or}
use Rattle.shop_http.specs.declared.requests.values.Values.{Values}
use Rattle.shop_http.specs.Firsts.{Firsts, kept}
use Rattle.shop_http.specs.Names.{place_of}

abbrev pub firsts_kept : Values → Firsts
firsts_kept values parameter = kept (slice_index_or values.kept (place_of parameter) None)
