-- What each public call may answer and leave, by the contract that its code carries: `Post` is read off the call's own `ensures`
-- by Rattle. A page to read; it stands here because `specs/` can't see the code's contracts.
use Rattle.std.specs.Prelude.{ℕ, ◌≡◌, List}
use contract.Lifetimes.{Lfts}
use denote.MutBor.{MutBor}
use denote.Ref.{Bor}
use Rattle.meaning.specs.declared.Answer.{Answer}
use Rattle.writing.specs.Lent.{Lent}
use Rattle.announce.specs.declared.Checked.{Checked}
use Rattle.rooms.specs.Run.{Ran}
use Rattle.trammelbud.proofs.tb_read_graph.Reads as ReadGraphCall
use Rattle.trammelbud.proofs.tb_read_document.Reads as ReadDocumentCall
use Rattle.trammelbud.proofs.tb_read_tables.Reads as ReadTablesCall
use Rattle.trammelbud.proofs.tb_read_query.Reads as ReadQueryCall
use Rattle.trammelbud.proofs.tb_read_program.Reads as ReadProgramCall
use Rattle.trammelbud.proofs.tb_shred.Reads as ShredCall
use Rattle.trammelbud.proofs.tb_rebuild.Reads as RebuildCall
use Rattle.trammelbud.proofs.tb_translate.Reads as TranslateCall
use Rattle.trammelbud.proofs.tb_check.Reads as CheckCall
use Rattle.trammelbud.proofs.tb_run.Reads as RunCall
use Rattle.trammelbud.proofs.tb_select.Reads as SelectCall
use Rattle.trammelbud.proofs.tb_list.Reads as ListCall

-- a file as a call is handed it: where it lies, and what its bytes are `now`
abbrev pub Slice : Type 0
Slice = Bor (List ℕ)

-- and a buffer, which is lent to be written
abbrev pub Buffer : Type 0
Buffer = MutBor (List ℕ)

-- one file, two, two beside a buffer, and three beside two buffers
abbrev pub Slices1 : Type 0
Slices1 = Slice × Unit {0}

abbrev pub Slices2 : Type 0
Slices2 = Slice × Slices1

abbrev pub Slices3 : Type 0
Slices3 = Slice × (Slice × (Buffer × Unit {0}))

abbrev pub Slices5 : Type 0
Slices5 = Slice × (Slice × (Slice × (Buffer × (Buffer × Unit {0}))))

-- A call on a graph alone: handed these bytes, wherever they lie, it may answer so.
pub record OnGraph (Post : Lfts 1 → Slices1 → Answer → Slices1 → Type 0) (gra : List ℕ) (answer : Answer) : Type 0 where
  pub lives : Lfts 1
  pub graph : Slice
  pub graph_is : graph.now ≡ gra
  pub post : Post lives (graph, tt) answer (graph, tt)

-- a call on a graph and a file
pub record OnFile {R : Type 0} (Post : Lfts 2 → Slices2 → R → Slices2 → Type 0) (gra file : List ℕ) (answer : R) : Type 0 where
  pub lives : Lfts 2
  pub graph : Slice
  pub under : Slice
  pub graph_is : graph.now ≡ gra
  pub file_is : under.now ≡ file
  pub post : Post lives (graph, (under, tt)) answer (graph, (under, tt))

-- a call on a graph and a file that is lent a buffer: it may answer so and leave these bytes in it
pub record Writing (Post : Lfts 3 → Slices3 → Answer → Slices3 → Type 0) (gra file out : List ℕ) (l : Lent) : Type 0 where
  pub lives : Lfts 3
  pub graph : Slice
  pub under : Slice
  pub before : Buffer
  pub after : Buffer
  pub graph_is : graph.now ≡ gra
  pub file_is : under.now ≡ file
  pub before_is : before.now ≡ out
  pub after_is : after.now ≡ l.bytes
  pub post : Post lives (graph, (under, (before, tt))) l.answer (graph, (under, (after, tt)))

-- a call on a graph, tables and a file that is lent two buffers
pub record Running (Post : Lfts 5 → Slices5 → Answer → Slices5 → Type 0) (gra edg file out work : List ℕ) (r : Ran) : Type 0 where
  pub lives : Lfts 5
  pub graph : Slice
  pub tables : Slice
  pub under : Slice
  pub out_before : Buffer
  pub work_before : Buffer
  pub out_after : Buffer
  pub work_after : Buffer
  pub graph_is : graph.now ≡ gra
  pub tables_is : tables.now ≡ edg
  pub file_is : under.now ≡ file
  pub out_is : out_before.now ≡ out
  pub work_is : work_before.now ≡ work
  pub out_left : out_after.now ≡ r.out
  pub work_left : work_after.now ≡ r.work
  pub post : Post lives (graph, (tables, (under, (out_before, (work_before, tt))))) r.answer (graph, (tables, (under, (out_after, (work_after, tt)))))

-- the twelve calls
abbrev pub TbReadGraph : List ℕ → Answer → Type 0
TbReadGraph = OnGraph ReadGraphCall.Post

abbrev pub TbReadDocument : List ℕ → List ℕ → Answer → Type 0
TbReadDocument = OnFile ReadDocumentCall.Post

abbrev pub TbReadTables : List ℕ → List ℕ → Answer → Type 0
TbReadTables = OnFile ReadTablesCall.Post

abbrev pub TbReadQuery : List ℕ → List ℕ → Answer → Type 0
TbReadQuery = OnFile ReadQueryCall.Post

abbrev pub TbReadProgram : List ℕ → List ℕ → Answer → Type 0
TbReadProgram = OnFile ReadProgramCall.Post

abbrev pub TbShred : List ℕ → List ℕ → List ℕ → Lent → Type 0
TbShred = Writing ShredCall.Post

abbrev pub TbRebuild : List ℕ → List ℕ → List ℕ → Lent → Type 0
TbRebuild = Writing RebuildCall.Post

abbrev pub TbTranslate : List ℕ → List ℕ → List ℕ → Lent → Type 0
TbTranslate = Writing TranslateCall.Post

abbrev pub TbCheck : List ℕ → List ℕ → Checked → Type 0
TbCheck = OnFile CheckCall.Post

abbrev pub TbRun : List ℕ → List ℕ → List ℕ → List ℕ → List ℕ → Ran → Type 0
TbRun = Running RunCall.Post

abbrev pub TbSelect : List ℕ → List ℕ → List ℕ → List ℕ → List ℕ → Ran → Type 0
TbSelect = Running SelectCall.Post

abbrev pub TbList : List ℕ → List ℕ → List ℕ → List ℕ → List ℕ → Ran → Type 0
TbList = Running ListCall.Post

-- and none of them asks anything of what it is handed
pub record AsksNothing : Type 0 where
  pub read_graph : (κs : Lfts 1) (handed : Slices1) → ReadGraphCall.Pre κs handed
  pub read_document : (κs : Lfts 2) (handed : Slices2) → ReadDocumentCall.Pre κs handed
  pub read_tables : (κs : Lfts 2) (handed : Slices2) → ReadTablesCall.Pre κs handed
  pub read_query : (κs : Lfts 2) (handed : Slices2) → ReadQueryCall.Pre κs handed
  pub read_program : (κs : Lfts 2) (handed : Slices2) → ReadProgramCall.Pre κs handed
  pub shred : (κs : Lfts 3) (handed : Slices3) → ShredCall.Pre κs handed
  pub rebuild : (κs : Lfts 3) (handed : Slices3) → RebuildCall.Pre κs handed
  pub translate : (κs : Lfts 3) (handed : Slices3) → TranslateCall.Pre κs handed
  pub check : (κs : Lfts 2) (handed : Slices2) → CheckCall.Pre κs handed
  pub run : (κs : Lfts 5) (handed : Slices5) → RunCall.Pre κs handed
  pub select : (κs : Lfts 5) (handed : Slices5) → SelectCall.Pre κs handed
  pub list : (κs : Lfts 5) (handed : Slices5) → ListCall.Pre κs handed
