-- What a job of a station promises, and its ticket.
use Rattle.shop_edges.specs.Starts.{MayGive}
use Rattle.shop_edges.specs.declared.ticket.Begun.{Begun}
use Rattle.shop_places.specs.declared.job.Serving.{Serving}
use Rattle.shop_places.specs.declared.job.Served.{Served}

module _ {R S I O P : Type 0} (Serves : S → I → O → S → I → O → P → Type 0) where
  -- the station that the job had served its link
  abbrev pub Keeps : Serving R S I O → Served S I O P → Type 0
  Keeps job out = Serves job.station job.source job.sink out.station out.source out.sink out.report

  -- whatever comes of the ticket, this station served these streams
  abbrev pub IsTicket : S → I → O → Begun (Serving R S I O) (Served S I O P) → Type 0
  IsTicket station source sink ticket =
      (out : Served S I O P) → MayGive Keeps ticket out → Serves station source sink out.station out.source out.sink out.report
