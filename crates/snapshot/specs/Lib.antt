pub mod HeapLayout
