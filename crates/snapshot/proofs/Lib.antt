pub mod HeapParts
