-- What C meets at each call is what its library's call promises, to ask and to answer: so the demands, which speak of the library's
-- calls, hold of what C calls.
use Rattle.std.proofs.Common.{◌≡◌, refl}
use Rattle.trammelbud.proofs.tb_read_graph.Reads as ReadGraphCall
use Rattle.trammelbud.proofs.tb_read_document.Reads as ReadDocumentCall
use Rattle.trammelbud.proofs.tb_read_tables.Reads as ReadTablesCall
use Rattle.trammelbud.proofs.tb_read_query.Reads as ReadQueryCall
use Rattle.trammelbud.proofs.tb_read_program.Reads as ReadProgramCall
use Rattle.trammelbud.proofs.tb_shred.Reads as ShredCall
use Rattle.trammelbud.proofs.tb_rebuild.Reads as RebuildCall
use Rattle.trammelbud.proofs.tb_translate.Reads as TranslateCall
use Rattle.trammelbud.proofs.tb_check.Reads as CheckCall
use Rattle.trammelbud.proofs.tb_run.Reads as RunCall
use Rattle.trammelbud.proofs.tb_select.Reads as SelectCall
use Rattle.trammelbud.proofs.tb_list.Reads as ListCall
use Rattle.trammelbud_c.proofs.tb_read_graph.Reads as ReadGraphForC
use Rattle.trammelbud_c.proofs.tb_read_document.Reads as ReadDocumentForC
use Rattle.trammelbud_c.proofs.tb_read_tables.Reads as ReadTablesForC
use Rattle.trammelbud_c.proofs.tb_read_query.Reads as ReadQueryForC
use Rattle.trammelbud_c.proofs.tb_read_program.Reads as ReadProgramForC
use Rattle.trammelbud_c.proofs.tb_shred.Reads as ShredForC
use Rattle.trammelbud_c.proofs.tb_rebuild.Reads as RebuildForC
use Rattle.trammelbud_c.proofs.tb_translate.Reads as TranslateForC
use Rattle.trammelbud_c.proofs.tb_check.Reads as CheckForC
use Rattle.trammelbud_c.proofs.tb_run.Reads as RunForC
use Rattle.trammelbud_c.proofs.tb_select.Reads as SelectForC
use Rattle.trammelbud_c.proofs.tb_list.Reads as ListForC

pub read_graph_asks : ReadGraphForC.Pre ≡ ReadGraphCall.Pre
read_graph_asks = refl

pub read_graph_answers : ReadGraphForC.Post ≡ ReadGraphCall.Post
read_graph_answers = refl

pub read_document_asks : ReadDocumentForC.Pre ≡ ReadDocumentCall.Pre
read_document_asks = refl

pub read_document_answers : ReadDocumentForC.Post ≡ ReadDocumentCall.Post
read_document_answers = refl

pub read_tables_asks : ReadTablesForC.Pre ≡ ReadTablesCall.Pre
read_tables_asks = refl

pub read_tables_answers : ReadTablesForC.Post ≡ ReadTablesCall.Post
read_tables_answers = refl

pub read_query_asks : ReadQueryForC.Pre ≡ ReadQueryCall.Pre
read_query_asks = refl

pub read_query_answers : ReadQueryForC.Post ≡ ReadQueryCall.Post
read_query_answers = refl

pub read_program_asks : ReadProgramForC.Pre ≡ ReadProgramCall.Pre
read_program_asks = refl

pub read_program_answers : ReadProgramForC.Post ≡ ReadProgramCall.Post
read_program_answers = refl

pub shred_asks : ShredForC.Pre ≡ ShredCall.Pre
shred_asks = refl

pub shred_answers : ShredForC.Post ≡ ShredCall.Post
shred_answers = refl

pub rebuild_asks : RebuildForC.Pre ≡ RebuildCall.Pre
rebuild_asks = refl

pub rebuild_answers : RebuildForC.Post ≡ RebuildCall.Post
rebuild_answers = refl

pub translate_asks : TranslateForC.Pre ≡ TranslateCall.Pre
translate_asks = refl

pub translate_answers : TranslateForC.Post ≡ TranslateCall.Post
translate_answers = refl

pub check_asks : CheckForC.Pre ≡ CheckCall.Pre
check_asks = refl

pub check_answers : CheckForC.Post ≡ CheckCall.Post
check_answers = refl

pub run_asks : RunForC.Pre ≡ RunCall.Pre
run_asks = refl

pub run_answers : RunForC.Post ≡ RunCall.Post
run_answers = refl

pub select_asks : SelectForC.Pre ≡ SelectCall.Pre
select_asks = refl

pub select_answers : SelectForC.Post ≡ SelectCall.Post
select_answers = refl

pub list_asks : ListForC.Pre ≡ ListCall.Pre
list_asks = refl

pub list_answers : ListForC.Post ≡ ListCall.Post
list_answers = refl
