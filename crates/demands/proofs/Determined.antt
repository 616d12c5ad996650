-- Each call has exactly one end.
use Rattle.trammelbud.proofs.Carried.{Is, read_graph_is, read_document_is, read_tables_is, read_query_is, read_program_is, shred_is, rebuild_is, translate_is, check_is, run_is, select_is, list_is}
use Rattle.demands.specs.Demands.{ExactlyOne, Determined}

exactly_one : {A : Type 0} {Ends : A → Type 0} {e : A} → Is Ends e → ExactlyOne Ends
exactly_one {e = e} is = record { end = e; there = is.allowed; only = is.only }

pub determined : Determined
determined = record {
  read_graph = λ gra. exactly_one (read_graph_is gra);
  read_document = λ gra tre. exactly_one (read_document_is gra tre);
  read_tables = λ gra edg. exactly_one (read_tables_is gra edg);
  read_query = λ gra qry. exactly_one (read_query_is gra qry);
  read_program = λ gra rel. exactly_one (read_program_is gra rel);
  shred = λ gra tre out. exactly_one (shred_is gra tre out);
  rebuild = λ gra edg out. exactly_one (rebuild_is gra edg out);
  translate = λ gra qry out. exactly_one (translate_is gra qry out);
  check = λ gra rel. exactly_one (check_is gra rel);
  run = λ gra edg rel out work. exactly_one (run_is gra edg rel out work);
  select = λ gra edg qry out work. exactly_one (select_is gra edg qry out work);
  list = λ gra edg qry text work. exactly_one (list_is gra edg qry text work);
}
